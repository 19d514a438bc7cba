-- Parts that are being joined: what was joined of them, what is left, and how it ends.
use Rattle.std.specs.Prelude.{◌≡◌, not, List, [], ◌∷◌, ◌++◌, Some, None, Result, Ok, Err, Contains, IsTrue, ◌⊎◌, ⊤}
use Rattle.rcc5_core.specs.declared.Rel.{Rel}
use Rattle.world_model.specs.Problem.{Problem}
use Rattle.world_model.specs.Listing.{is_below, is_before_end, IsListing}
use Rattle.part_join.specs.Parts.{Part, is_covered, IsReach, IsNextBeginning, IsFirstGap}
use Rattle.part_join.specs.declared.fault.JoinFault.{JoinFault}
use Rattle.part_join.specs.declared.fault.JoinFault.TheVariants.{PartRefused, Gap, ReadFault, NoMemory}

-- a part was taken out of a list
pub record IsTaken (q : Part) (old new : List Part) : Type 0 where
  pub before : List Part
  pub after : List Part
  pub was : old ≡ before ++ q ∷ after
  pub is : new ≡ before ++ after

-- a part neither begins nor ends above a position
pub record IsPassed (r : List Rel) (q : Part) : Type 0 where
  pub begins : IsTrue (not (is_below r q.from))
  pub ends : IsTrue (not (is_before_end r q.to))

-- of all parts some are left, and the others are passed by the position up to which the worlds are listed and all is covered
pub record IsSwept (p : Problem) (all left : List Part) (reach : List Rel) (worlds : List (List Rel)) : Type 0 where
  pub listed : IsListing p [] (Some reach) worlds
  pub before : (t : List Rel) → IsTrue (is_below t reach) → IsTrue (is_covered all t)
  pub passed : (q : Part) → Contains all q → Contains left q ⊎ IsPassed reach q
  pub among : (q : Part) → Contains left q → Contains all q

-- the gap behind a position, where no part that is left covers it; or memory ran out
abbrev pub IsGapAfter : List Part → List Rel → JoinFault → Type 0
IsGapAfter left reach (PartRefused number line kind) = ⊥
IsGapAfter left reach (Gap from to) = (from ≡ reach) × IsNextBeginning left reach to
IsGapAfter left reach ReadFault = ⊥
IsGapAfter left reach NoMemory = ⊤

-- how parts are joined: all worlds, or the first gap; or memory ran out
abbrev pub IsSweepOf : Problem → List Part → Result (List (List Rel)) JoinFault → Type 0
IsSweepOf p parts (Ok worlds) = IsReach parts None × IsListing p [] None worlds
IsSweepOf p parts (Err (PartRefused number line kind)) = ⊥
IsSweepOf p parts (Err (Gap from to)) = IsFirstGap parts from to
IsSweepOf p parts (Err ReadFault) = ⊥
IsSweepOf p parts (Err NoMemory) = ⊤
