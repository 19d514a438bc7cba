use Rattle.std.proofs.Common.{◌≡◌, ◌<◌, ◌++◌, not, ◌||◌, map, drop, All}
use Rattle.std.specs.Prelude.{filter}
use Rattle.rcc5_core.specs.RelationSet.{is_empty_set}
use Rattle.rcc5_core.specs.Region.{is_whole_set}
use Rattle.world_model.specs.Problem.{pairs, pair_count}
use Rattle.world_model.specs.Alive.{allowed}
use Rattle.world_model.specs.Node.{pair_at}
use Rattle.cert_rules.specs.ClaimLists.{split_pairs}
use Rattle.split_search.proofs.pairs.split_of.Given as goal

-- the split pairs so far, with those that are still to come
abbrev pub invariant-loop-pair : goal.invariant-loop-pair
invariant-loop-pair l = record {
  list : map (pair_at l.problem) l.list.items ++ filter (λ pair. not (is_empty_set (allowed l.problem pair) || is_whole_set (allowed l.problem pair))) (drop l.pair (pairs l.problem)) ≡ split_pairs l.problem;
  within : All (λ pair. pair < pair_count l.problem) l.list.items;
}
