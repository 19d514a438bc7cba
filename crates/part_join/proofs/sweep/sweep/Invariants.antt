use Rattle.std.proofs.Common.{length}
use Rattle.std.specs.Prelude.{All}
use Rattle.world_model.specs.Problem.{Problem}
use Rattle.part_join.specs.Parts.{IsListed}
use Rattle.part_join.specs.Sweeping.{IsSwept}
use Rattle.part_join.proofs.sweep.sweep.Given as goal

-- each turn takes a part
abbrev pub decreases-loop-part : goal.decreases-loop-part
decreases-loop-part l = length l.left.items

abbrev pub invariant-loop-part : goal.invariant-loop-part
invariant-loop-part l = (p : Problem) → All (IsListed p) l.fn.parts.items → IsSwept p l.fn.parts.items l.left.items l.reach l.worlds.items
