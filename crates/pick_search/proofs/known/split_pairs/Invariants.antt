use Rattle.std.proofs.Common.{◌<◌, ◌≤◌, length}
use Rattle.std.specs.Prelude.{All}
use Rattle.world_model.specs.Problem.{pair_count}
use Rattle.pick_search.proofs.known.split_pairs.Given as goal

abbrev pub invariant-loop-pair : goal.invariant-loop-pair
invariant-loop-pair l = record {
  few : length l.pairs.items ≤ l.pair;
  within : All (λ pair. pair < pair_count l.problem) l.pairs.items;
}
