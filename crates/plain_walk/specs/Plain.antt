-- Words for the parts of the plain program.
use Rattle.std.specs.Prelude.{ℕ, Bool, true, not, ◌||◌, List, drop}
use Rattle.std.specs.List.{list_all, list_any, items_where_true}
use Rattle.rcc5_core.specs.declared.Regions.{Regions}
use Rattle.rcc5_core.specs.declared.Occupancy.TheVariants.{Occupied}
use Rattle.rcc5_core.specs.Region.{all_regions, word_at, same_word}
use Rattle.world_model.specs.declared.Articulation.{Articulation}
use Rattle.world_model.specs.declared.Articulation.TheVariants.{Pair, Sum}
use Rattle.world_model.specs.Problem.{Problem}
use Rattle.world_model.specs.Alive.{lies_in, point_sums}

-- whether a sum holds at a point; what is no sum says nothing
abbrev pub sum_at : List Bool → Articulation → Bool
sum_at bits (Pair left right set) = true
sum_at bits (Sum whole parts) = point_sums bits (record { whole = whole; parts = parts })

-- whether the sums hold at a point that are kept among the articulations from one place on
abbrev pub sums_from : List Bool → Problem → ℕ → Bool
sums_from bits p index = list_all (sum_at bits) (items_where_true (drop index p.kept) (drop index p.articulations))

-- whether each region of a pair that is forced occupied has one of the points
abbrev pub serves_at : List (List Bool) → (ℕ × ℕ) × Regions → Bool
serves_at points entry = list_all (λ region. not (same_word (word_at entry.1 region) Occupied) || list_any (lies_in region entry.0) points) all_regions
