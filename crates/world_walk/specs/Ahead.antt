-- What is left of a listing that goes along the prefixes of worlds.
use Rattle.std.specs.Prelude.{◌≡◌, ℕ, ◌<◌, ◌⊎◌, ◌+◌, ◌-◌, ◌*◌, ◌^◌, zero, suc, not, List, [], ◌∷◌, ◌++◌, length, take, Option, Some, None, IsTrue, slice_index_or}
use Rattle.rcc5_core.specs.declared.Rel.{Rel}
use Rattle.rcc5_core.specs.declared.RelSet.{RelSet}
use Rattle.rcc5_core.specs.Relation.{rank_of}
use Rattle.rcc5_core.specs.RelationSet.{has, no_rels}
use Rattle.world_model.specs.Problem.{Problem}
use Rattle.world_model.specs.Family.{IsPossibleWorld}
use Rattle.world_model.specs.Listing.{Begins, rel_at, is_below, is_before_end, IsListing}
use Rattle.world_walk.specs.declared.way.Level.{Level}

-- a place does not lie before another
abbrev pub IsOnward : List Rel → Option (List Rel) → Type 0
IsOnward one None = Unit {0}
IsOnward one (Some other) = IsTrue (not (is_below other one))

-- from one place on and below another, which does not lie before it, stand just these worlds
pub record ListsBetween (p : Problem) (one : List Rel) (other : Option (List Rel)) (worlds : List (List Rel)) : Type 0 where
  pub onward : IsOnward one other
  pub exactly : IsListing p one other worlds

-- between two places of a listing, of which none is its end, stand just these worlds
abbrev pub Lists : Problem → Option (List Rel) → Option (List Rel) → List (List Rel) → Type 0
Lists p None other worlds = (other ≡ None) × (worlds ≡ [])
Lists p (Some one) other worlds = ListsBetween p one other worlds

-- a level by its number
abbrev pub level_at : List Level → ℕ → Level
level_at levels i = slice_index_or levels i (record { depth = 0; set = no_rels })

-- two lists begin with the same relations, so many
pub record BeginAlike (one other : List Rel) (count : ℕ) : Type 0 where
  pub common : List Rel
  pub counted : length common ≡ count
  pub first : Begins common one
  pub second : Begins common other

-- a place behind all that begin with a path; and no other worlds stand between the two
pub record IsPast (p : Problem) (m : List Rel) (other : Option (List Rel)) : Type 0 where
  pub before : (t : List Rel) → Begins m t → IsTrue (is_before_end t other)
  pub only : (t : List Rel) → IsPossibleWorld p t → IsTrue (not (is_below t m)) → IsTrue (is_before_end t other) → Begins m t

-- a table leaves a path at a depth by a later one of some relations
pub record Leaves (m : List Rel) (depth : ℕ) (set : RelSet) (t : List Rel) : Type 0 where
  pub rel : Rel
  pub by_set : IsTrue (has set rel)
  pub later : rank_of (rel_at m depth) < rank_of rel
  pub rest : List Rel
  pub goes : t ≡ take depth m ++ rel ∷ rest

-- a table leaves a path at one of some levels
pub record Branches (m : List Rel) (levels : List Level) (t : List Rel) : Type 0 where
  pub number : ℕ
  pub among : number < length levels
  pub leaves : Leaves m (level_at levels number).depth (level_at levels number).set t

-- the levels of a path are on it, one deeper than the other
pub record AreLevels (m : List Rel) (levels : List Level) : Type 0 where
  pub deeper : (i j : ℕ) → i < j → j < length levels → (level_at levels i).depth < (level_at levels j).depth
  pub within : (i : ℕ) → i < length levels → (level_at levels i).depth < length m

-- each world that is not below a path begins with it or leaves it at one of the levels
abbrev pub AllAhead : Problem → List Rel → List Level → Type 0
AllAhead p m levels = (t : List Rel) → IsPossibleWorld p t → IsTrue (not (is_below t m)) → Begins m t ⊎ Branches m levels t

-- what is so of a path and its levels at any time
pub record IsAhead (p : Problem) (m : List Rel) (levels : List Level) : Type 0 where
  pub levels_are : AreLevels m levels
  pub all : AllAhead p m levels

-- how many positions of at most n relations are not below one of them, counted generously
abbrev pub room : ℕ → List Rel → ℕ
room n [] = 6 ^ n
room zero (r ∷ m) = 0
room (suc n) (r ∷ m) = (4 - rank_of r) * 6 ^ n + room n m
