use Rattle.std.proofs.Common.{◌≡◌}
use Rattle.constraint_set.specs.Shape.{shape_of}
use Rattle.search_checks.proofs.spans.tell_next.Given as goal

-- the search and the asker are those of the problem
abbrev pub invariant-loop-world : goal.invariant-loop-world
invariant-loop-world l = record {
  problem : l.search.problem ≡ l.problem;
  shape : l.asker.shape ≡ shape_of l.problem;
}
