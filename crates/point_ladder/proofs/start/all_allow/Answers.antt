use Rattle.std.proofs.Common.{sym, arith}
use Rattle.point_ladder.proofs.FirstFrame.{allow_by_sets}
use Rattle.point_ladder.proofs.start.all_allow.Goals as goal

pub returns : goal.returns
returns c = sym (allow_by_sets c.args.problem.now c.args.sets.now c.requires (λ k small. c.loop-set.invariant k (omega (arith, small, c.loop-set-test.false))))
