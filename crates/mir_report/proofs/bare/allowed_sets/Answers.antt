use Rattle.std.proofs.Common.{rules, arith}
use Rattle.mir_report.proofs.Unasked.{candidates_more}
use Rattle.mir_report.proofs.Laws.{cross_within}
use Rattle.mir_report.proofs.bare.allowed_sets.Goals as goal

pub allowed-requires : goal.allowed-requires
allowed-requires c = cross_within c.args.problem.now c.loop-pair.pair (omega arith)

pub loop-pair-preserved : goal.loop-pair-preserved
loop-pair-preserved c =
    candidates_more c.args.problem.now c.loop-pair.pair c.loop-pair.sets.items c.push.new.self.items c.allowed.result (cross_within c.args.problem.now c.loop-pair.pair (omega arith)) c.allowed.ensures (search rules)
    c.loop-pair.invariant
