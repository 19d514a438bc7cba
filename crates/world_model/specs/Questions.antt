-- What one may ask of a problem besides its worlds.
use Rattle.std.specs.Prelude.{◌≡◌, ℕ, Bool, true, false, not, List, length, Some, slice_get, IsTrue}
use Rattle.std.specs.declared.cmp.Ordering.{Ordering}
use Rattle.std.specs.Ordering.{nat_cmp, is_lt}
use Rattle.std.specs.Cmp.Lexicographic.{slice_cmp}
use Rattle.rcc5_core.specs.declared.Rel.{Rel}
use Rattle.world_model.specs.Problem.{Problem, restricted}
use Rattle.world_model.specs.Family.{Family, meets, IsPossibleWorld}

-- a relation that some possible world has at a pair, which is given by its number
pub record IsPossibleRelation (p : Problem) (pair : ℕ) (rel : Rel) : Type 0 where
  pub table : List Rel
  pub world : IsPossibleWorld p table
  pub there : slice_get table pair ≡ Some rel

-- some family meets the problem
abbrev pub IsMet : Problem → Type 0
IsMet p = (f : Family) × IsTrue (meets p f)

-- a subset of the articulations, by a flag for each, is consistent where some family meets the problem with exactly these kept
abbrev pub IsConsistent : Problem → List Bool → Type 0
IsConsistent p kept = IsMet (restricted p kept)

-- a flag as a number
abbrev pub flag_number : Bool → ℕ
flag_number false = 0
flag_number true = 1

-- the order of lists of flags: lexicographic, 0 before 1
abbrev pub flags_cmp : List Bool → List Bool → Ordering
flags_cmp a b = slice_cmp (λ x y. nat_cmp (flag_number x) (flag_number y)) a b

-- one flag for each articulation
abbrev pub HasFlags : Problem → List Bool → Type 0
HasFlags p kept = length kept ≡ length p.articulations

-- the inconsistent subset whose list of flags is the least
pub record IsLeastConflict (p : Problem) (kept : List Bool) : Type 0 where
  pub flags : HasFlags p kept
  pub inconsistent : IsConsistent p kept → ⊥
  pub least : (other : List Bool) → HasFlags p other → (IsConsistent p other → ⊥) → IsTrue (not (is_lt (flags_cmp other kept)))
