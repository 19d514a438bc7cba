use Rattle.std.proofs.Common.{rules}
use Rattle.mir_report.proofs.Showing.{none_possible, seen_pair}
use Rattle.mir_report.proofs.seen.none_seen.Goals as goal

pub pairs-preserved : goal.pairs-preserved
pairs-preserved c =
    seen_pair c.args.problem.now c.pairs._pair c.pairs.seen.items c.push.new.self.items c.none.result c.pairs.invariant (none_possible c.args.problem.now c.pairs._pair c.none.result c.none.ensures) (search rules)
