-- What the readers of a problem give, where the definition of a problem has no word for it.
use Rattle.std.specs.Prelude.{ℕ, Bool, true, false, List, [], length, filter, filter_map, slice_get, slice_index_or, Option}
use Rattle.std.specs.Option.{option_map_or, option_and_then}
use Rattle.std.specs.List.{range_with_len}
use Rattle.world_model.specs.Problem.{Problem, SumRule, as_sum}
use Rattle.world_model.specs.declared.Articulation.{Articulation}
use Rattle.world_model.specs.declared.Articulation.TheVariants.{Pair, Sum}

-- the name of a taxonomy
abbrev pub taxonomy_of : Problem → ℕ → List ℕ
taxonomy_of p which = slice_index_or p.taxonomies which []

-- the name of a concept
abbrev pub name_of : Problem → ℕ → List ℕ
name_of p c = slice_index_or p.names c []

-- whether an articulation is a sum
abbrev pub is_sum : Articulation → Bool
is_sum (Pair left right set) = false
is_sum (Sum whole parts) = true

-- whether the articulation with this index is a sum
abbrev pub is_sum_at : List Articulation → ℕ → Bool
is_sum_at articulations k = option_map_or is_sum (slice_get articulations k) false

-- the indices of the sums among all articulations, kept or not, in order
abbrev pub sum_places : Problem → List ℕ
sum_places p = filter (is_sum_at p.articulations) (range_with_len 0 (length p.articulations))

-- what the sums say, kept or not, in order
abbrev pub all_sums : Problem → List SumRule
all_sums p = filter_map as_sum p.articulations

-- what the articulation with this index says, if it is a sum
abbrev pub rule_at : List Articulation → ℕ → Option SumRule
rule_at articulations k = option_and_then as_sum (slice_get articulations k)
