use Rattle.std.proofs.Common.{◌≡◌, ◌+◌, length, arith}
use Rattle.world_search.proofs.OpenChildren.{known_says}
use Rattle.world_search.proofs.walk.known_here.Goals as goal

pub returns : goal.returns
returns c = λ p knows.
    let m = c.args.walk.now.path in
    let k = c.in_ok-above.above in
    let long : length m ≡ k + 1 = omega arith in
    rw c.has.ensures (known_says p m c.args.walk.now.opens k c.in_ok-set.set c.at-2.result knows long c.in_ok-set.ensures c.at-2.ensures)
