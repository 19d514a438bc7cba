use Rattle.pick_search.proofs.Narrowing.{part_whole}
use Rattle.mir_report.proofs.sight.choose_any.Goals as goal

pub choose_part-requires-clause-part : goal.choose_part-requires-clause-part
choose_part-requires-clause-part c = part_whole c.args.problem.now
