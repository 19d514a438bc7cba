-- What a search for the points of all needs finds.
use Rattle.std.specs.Prelude.{◌≡◌, ℕ, ◌<◌, Bool, List, length, All, [], ◌∷◌, ◌++◌, map, slice_index_or, Contains, IsTrue}
use Rattle.rcc5_core.specs.declared.Rel.{Rel}
use Rattle.world_model.specs.Problem.{Problem}
use Rattle.world_model.specs.Alive.{HasPoint, is_in_need, needs, problem_at}
use Rattle.point_encode.specs.declared.need.Need.{Need}
use Rattle.point_encode.specs.Needs.{need_seen, IsInRange}
use Rattle.search_checks.specs.declared.asker.each_need.Sought.{Sought}
use Rattle.search_checks.specs.declared.asker.each_need.Sought.TheVariants.{Points, Closed}
use Rattle.search_checks.specs.declared.asker.each_need.Placed.{Placed}
use Rattle.search_checks.specs.declared.asker.each_need.Placed.TheVariants.{At}
use Rattle.search_checks.specs.declared.asker.each_need.Placed.TheVariants as placed
use Rattle.point_query.specs.Asking.{AskerState}
use Rattle.point_encode.specs.Numbers.{EachServed}
use Rattle.point_query.specs.Answers.{IsClosed}

-- the points at these places
abbrev pub chosen : List (List Bool) → List ℕ → List (List Bool)
chosen points places = map (λ place. slice_index_or points place []) places

-- a need in range is the first among others without a point, as a clause shows
pub record IsStopped (asker : AskerState) (p : Problem) (m : List Rel) (needs : List Need) (need : Need) (id : ℕ) : Type 0 where
  pub range : IsInRange p need
  pub before : List Need
  pub after : List Need
  pub among : needs ≡ before ++ need ∷ after
  pub earlier : (other : Need) → Contains before other → HasPoint (problem_at p m) (need_seen p other)
  pub closed : IsClosed asker p m (need_seen p need) id

-- the points at some places are there, and serve some needs
pub record AreServed (p : Problem) (m : List Rel) (needs : List Need) (points : List (List Bool)) (places : List ℕ) : Type 0 where
  pub there : All (λ place. place < length points) places
  pub each : EachServed (problem_at p m) (map (need_seen p) needs) (chosen points places)

-- what was sought for some needs: a point for each, or the first without one
abbrev pub IsSought : AskerState → Problem → List Rel → List Need → Sought → Type 0
IsSought asker p m needs (Points found places) = AreServed p m needs found.items places.items
IsSought asker p m needs (Closed need id) = IsStopped asker p m needs need id

-- what is sought for all needs of a prefix
pub record IsSoughtAt (asker : AskerState) (p : Problem) (m : List Rel) (sought : Sought) : Type 0 where
  pub list : List Need
  pub all : map (need_seen p) list ≡ needs (problem_at p m)
  pub found : IsSought asker p m list sought

-- one list of points is the front of another
abbrev pub IsFront : List (List Bool) → List (List Bool) → Type 0
IsFront front all = (more : List (List Bool)) × (all ≡ front ++ more)

-- a place has a point in the need, or a clause closes the need
abbrev pub IsPlaced : AskerState → Problem → List Rel → List (List Bool) → Rattle.world_model.specs.Alive.Need → Placed → Type 0
IsPlaced asker p m points need (At place) = (place < length points) × IsTrue (is_in_need need (slice_index_or points place []))
IsPlaced asker p m points need (placed.Closed id) = IsClosed asker p m need id
