use Rattle.std.proofs.Common.{arith}
use Rattle.point_pool.proofs.Sameness.{same_entries}
use Rattle.point_pool.proofs.copies.same_narrowings.Goals as goal

pub returns : goal.returns
returns c = λ same.
    same_entries c.args.one.now.narrowings c.args.other.now.narrowings (omega arith) (λ k small. c.loop-index.invariant k (omega arith))
