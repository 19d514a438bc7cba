-- A number that falls at each step of the search.
use Rattle.std.specs.Prelude.{ℕ, zero, suc, ◌+◌, ◌^◌, List, [], ◌∷◌, if◌then◌else◌}
use Rattle.watch_arena.specs.declared.places.Place.{Place}
use Rattle.watch_arena.specs.Places.{is_assumed}

-- the places as a number in base 3, the first one first: 0 where it is implied, 1 where assumed, and 2 where there is none,
-- and one more
abbrev pub weight : ℕ → List Place → ℕ
weight zero places = 1
weight (suc n) [] = 3 ^ suc n
weight (suc n) (p ∷ places) = (if is_assumed p then 3 ^ n else 0) + weight n places
