use Rattle.std.proofs.Common.{◌≡◌}
use Rattle.constraint_set.specs.Shape.{shape_of}
use Rattle.search_checks.proofs.turns.put_kept.Given as goal

abbrev pub invariant-loop-rel : goal.invariant-loop-rel
invariant-loop-rel l = l.asker.shape ≡ shape_of l.problem
