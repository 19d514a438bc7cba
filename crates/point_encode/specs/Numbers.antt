-- The needs of a problem by their numbers, and points that serve them.
use Rattle.point_encode.specs.Model.Forced.{need_at, region_with}
use Rattle.point_encode.specs.declared.numbers.Wanted.{Wanted}
use Rattle.point_encode.specs.declared.numbers.Wanted.TheVariants.{Concept, Region}
use Rattle.rcc5_core.specs.Region.{same_word, word_at}
use Rattle.rcc5_core.specs.declared.Occupancy.TheVariants.{Occupied}
use Rattle.rcc5_core.specs.declared.Region.TheVariants.{Both, LeftOnly, RightOnly}
use Rattle.std.specs.List.{list_all, range_with_len}
use Rattle.std.specs.Prelude.{Bool, IsTrue, List, [], flat_map, if◌then◌else◌, length, nat_lt, not, ℕ, ◌%◌, ◌&&◌, ◌*◌, ◌+◌, ◌-◌, ◌/◌, ◌<◌, ◌∷◌, ◌≤◌}
use Rattle.world_model.specs.Alive.{InConcept, InRegion, Need, each_has_one, is_in_need, is_point, needs}
use Rattle.world_model.specs.Node.{pair_at}
use Rattle.world_model.specs.Points.{forced_at}
use Rattle.world_model.specs.Problem.{Problem, concept_count, pair_count}
use Rattle.rcc5_core.specs.declared.Region as regions

-- whether the need with a number is one
abbrev pub is_needed : Problem → ℕ → Bool
is_needed p number =
    if nat_lt number (3 * pair_count p) then same_word (word_at (forced_at p (number / 3)) (region_with (number % 3))) Occupied else p.switches.nonempty

-- the need with a number, if it is one, and the needs with a number below n
abbrev pub one_need : Problem → ℕ → List Need
one_need p number = if is_needed p number then need_at p number ∷ [] else []

abbrev pub needs_below : Problem → ℕ → List Need
needs_below p n = flat_map (one_need p) (range_with_len 0 n)

-- the need that is meant
abbrev pub wanted_seen : Wanted → Need
wanted_seen (Region x y part) = InRegion (x, y) (region_with part)
wanted_seen (Concept c) = InConcept c

-- its concepts are below n
abbrev pub IsBelow : ℕ → Wanted → Type 0
IsBelow n (Region x y part) = (x < n) × (y < n)
IsBelow n (Concept c) = c < n

-- each need has the point beside it
abbrev pub EachServed : Problem → List Need → List (List Bool) → Type 0
EachServed p [] [] = Unit {0}
EachServed p [] (bits ∷ rest) = ⊥
EachServed p (need ∷ others) [] = ⊥
EachServed p (need ∷ others) (bits ∷ rest) = IsTrue (is_point p bits) × IsTrue (is_in_need need bits) × EachServed p others rest

-- points serve some needs: each is a point, each need has one of them, and they are no more than the needs
pub record AreServing (p : Problem) (needs : List Need) (points : List (List Bool)) : Type 0 where
  pub each_is : IsTrue (list_all (is_point p) points)
  pub each_has : IsTrue (each_has_one needs points)
  pub few : length points ≤ length needs
