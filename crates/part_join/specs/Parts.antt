-- Parts of a listing: what they cover, how far they reach, and the first gap between them.
use Rattle.std.specs.Prelude.{Bool, not, ◌&&◌, List, map, Option, Some, IfSome, All, Contains, IsTrue}
use Rattle.std.specs.List.{list_any}
use Rattle.rcc5_core.specs.declared.Rel.{Rel}
use Rattle.world_model.specs.Problem.{Problem}
use Rattle.world_model.specs.Listing.{is_below, is_before_end, is_between, IsListing}

-- a part of a listing: the worlds from one position on and below another, or to the end of all
pub record Part : Type 0 where
  pub from : List Rel
  pub to : Option (List Rel)
  pub worlds : List (List Rel)

-- whether a position is one that a part lists, if it is a world
abbrev pub covers : List Rel → Part → Bool
covers t q = is_between q.from q.to t

-- whether some part covers a position
abbrev pub is_covered : List Part → List Rel → Bool
is_covered parts t = list_any (covers t) parts

-- a part lists just its possible worlds
abbrev pub IsListed : Problem → Part → Type 0
IsListed p q = IsListing p q.from q.to q.worlds

-- how far parts reach: each position before it is covered, and it itself is not. None is the end of all
pub record IsReach (parts : List Part) (reach : Option (List Rel)) : Type 0 where
  pub before : (t : List Rel) → IsTrue (is_before_end t reach) → IsTrue (is_covered parts t)
  pub stops : IfSome reach (λ r. IsTrue (not (is_covered parts r)))

-- the least beginning above a position, if a part begins above it
pub record IsNextBeginning (parts : List Part) (r : List Rel) (next : Option (List Rel)) : Type 0 where
  pub none : All (λ q. IsTrue (not (is_below r q.from && is_before_end q.from next))) parts
  pub there : IfSome next (λ m. IsTrue (is_below r m) × Contains (map (λ q. q.from) parts) m)

-- the first gap: from the reach to the least beginning above it
pub record IsFirstGap (parts : List Part) (from : List Rel) (to : Option (List Rel)) : Type 0 where
  pub reach : IsReach parts (Some from)
  pub next : IsNextBeginning parts from to
