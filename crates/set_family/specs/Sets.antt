-- What makes lists of numbers the sets of a family.
use Rattle.std.specs.Prelude.{ℕ, Bool, nat_lt, ◌&&◌, List, Option, Some, None, length, map, if◌then◌else◌}
use Rattle.std.specs.List.{list_all, range_with_len}
use Rattle.rcc5_core.specs.Relation.{is_ascending}
use Rattle.world_model.specs.Alive.{places_with}
use Rattle.world_model.specs.Family.{Family}

-- whether a list is a set of numbers below u: strictly ascending, and each number below u
abbrev pub is_set_below : ℕ → List ℕ → Bool
is_set_below u xs = is_ascending xs && list_all (λ x. nat_lt x u) xs

-- the family of these lists, where each is a set of numbers below u
abbrev pub family_from : ℕ → List (List ℕ) → Option Family
family_from u lists = if list_all (is_set_below u) lists then Some (record { universe = u; sets = lists }) else None

-- the family of n sets over the places of some points: each set has the places of the points that have its bit
abbrev pub family_of_points : ℕ → List (List Bool) → Family
family_of_points n points = record { universe = length points; sets = map (λ c. places_with c 0 points) (range_with_len 0 n) }
