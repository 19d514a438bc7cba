-- What is asked of a point pair by pair and sum by sum, by their numbers.
use Rattle.std.specs.Prelude.{ℕ, Bool, true, List, drop, filter}
use Rattle.std.specs.List.{list_all, list_any, range_with_len, items_where_true}
use Rattle.rcc5_core.specs.declared.Regions.{Regions}
use Rattle.rcc5_core.specs.declared.Occupancy.TheVariants.{Empty}
use Rattle.rcc5_core.specs.Region.{all_regions, word_at, same_word, forced_regions}
use Rattle.world_model.specs.declared.Articulation.{Articulation}
use Rattle.world_model.specs.declared.Articulation.TheVariants.{Pair, Sum}
use Rattle.world_model.specs.Problem.{Problem, pair_count}
use Rattle.world_model.specs.Node.{pair_at}
use Rattle.world_model.specs.Alive.{allowed, bit_of, same_bool, avoids}

-- what a problem forces of the pair with a number
abbrev pub forced_at : Problem → ℕ → Regions
forced_at p k = forced_regions (allowed p (pair_at p k))

-- whether some region is forced empty
abbrev pub has_empty : Regions → Bool
has_empty regions = list_any (λ region. same_word (word_at regions region) Empty) all_regions

-- the pairs with a region that is forced empty
abbrev pub empty_pairs : Problem → List ℕ
empty_pairs p = filter (λ pair. has_empty (forced_at p pair)) (range_with_len 0 (pair_count p))

-- whether a point is in no region of a pair that is forced empty
abbrev pub avoids_at : Problem → List Bool → ℕ → Bool
avoids_at p bits pair = avoids bits (pair_at p pair, forced_at p pair)

-- whether a sum holds at a point; what is no sum says nothing
abbrev pub sum_holds : List Bool → Articulation → Bool
sum_holds bits (Pair left right set) = true
sum_holds bits (Sum whole parts) = same_bool (bit_of bits whole) (list_any (bit_of bits) parts)

-- whether the sums hold at a point that are kept among the articulations from one index on
abbrev pub sums_from : List Bool → Problem → ℕ → Bool
sums_from bits p index = list_all (sum_holds bits) (items_where_true (drop index p.kept) (drop index p.articulations))
