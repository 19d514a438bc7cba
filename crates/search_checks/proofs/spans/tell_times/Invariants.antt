use Rattle.std.proofs.Common.{◌≡◌}
use Rattle.constraint_set.specs.Shape.{shape_of}
use Rattle.search_checks.proofs.spans.tell_times.Given as goal

-- the search and the asker are those of the problem
abbrev pub invariant-loop-time : goal.invariant-loop-time
invariant-loop-time l = record {
  problem : l.search.problem ≡ l.problem;
  shape : l.asker.shape ≡ shape_of l.problem;
}
