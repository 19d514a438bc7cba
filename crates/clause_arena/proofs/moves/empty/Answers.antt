use Rattle.std.proofs.Common.{arith}
use Rattle.clause_arena.proofs.Pairs.{pairs_from-empty}
use Rattle.clause_arena.proofs.moves.empty.Goals as goal

pub returns : goal.returns
returns c =
    pairs_from-empty c.loop-to.table 0 (λ k lt. c.loop-to.invariant k (let done = c.loop-to-test.false in omega arith))
