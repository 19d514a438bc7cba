use Rattle.std.proofs.Common.{◌≡◌}
use Rattle.world_model.specs.Trial.{bit_lists}
use Rattle.plain_walk.proofs.trial.bit_lists.Given as goal

abbrev pub invariant-loop-length : goal.invariant-loop-length
invariant-loop-length l = l.points.items ≡ bit_lists l._length
