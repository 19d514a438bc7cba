use Rattle.std.proofs.Common.{arith}
use Rattle.mir_report.proofs.Laws.{cross_within}
use Rattle.mir_report.proofs.sight.add_all_open.Goals as goal

pub add_open-requires-clause-pair : goal.add_open-requires-clause-pair
add_open-requires-clause-pair c = cross_within c.args.problem.now c.pairs.pair (omega arith)
