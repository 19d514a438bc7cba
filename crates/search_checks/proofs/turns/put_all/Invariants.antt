use Rattle.std.proofs.Common.{◌≡◌}
use Rattle.constraint_set.specs.Shape.{shape_of}
use Rattle.search_checks.proofs.turns.put_all.Given as goal

abbrev pub invariant-loop-kept : goal.invariant-loop-kept
invariant-loop-kept l = l.asker.shape ≡ shape_of l.problem
