use Rattle.std.proofs.Common.{◌≡◌}
use Rattle.constraint_set.specs.Gather.{with_first}
use Rattle.constraint_set.proofs.gather.Gathered.add_forest.Given as goal

-- the first concepts of the forest are taken in
abbrev pub invariant-loop-concept : goal.invariant-loop-concept
invariant-loop-concept l = l.self ≡ with_first l.initial.self l.before l.which l.forest l.concept
