use Rattle.std.proofs.Common.{refl}
use Rattle.rcc5_core.specs.RelationSet.{only}
use Rattle.pick_search.proofs.Narrowing.{part_narrowed}
use Rattle.mir_report.proofs.sight.choose_with.Goals as goal

pub choose_part-requires-clause-part : goal.choose_part-requires-clause-part
choose_part-requires-clause-part c = part_narrowed c.args.problem.now c.args.part.now c.args.pair c.args.rel (only c.args.rel) refl c.requires.part c.requires.alike
