use Rattle.std.proofs.Common.{◌<◌, ◌≤◌, length}
use Rattle.std.specs.Prelude.{All}
use Rattle.family_solver.proofs.ground.split_pairs.Given as goal

abbrev pub invariant-loop-pair : goal.invariant-loop-pair
invariant-loop-pair l = record {
  few : length l.pairs.items ≤ l.pair;
  within : All (λ pair. pair < l.pair) l.pairs.items;
}
