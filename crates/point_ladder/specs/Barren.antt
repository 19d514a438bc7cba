-- Frames behind which no world lies.
use Rattle.std.specs.Prelude.{◌≡◌, ℕ, ◌<◌, ◌≤◌, List, Bool, Contains, IsTrue, slice_index_or}
use Rattle.rcc5_core.specs.declared.Rel.{Rel}
use Rattle.rcc5_core.specs.declared.RelSet.{RelSet}
use Rattle.rcc5_core.specs.Region.{row_of}
use Rattle.rcc5_core.specs.RelationSet.{has}
use Rattle.world_model.specs.Problem.{Problem, Constraint, pair_count}
use Rattle.world_model.specs.Family.{IsPossibleWorld}
use Rattle.world_model.specs.Node.{pair_at}
use Rattle.world_model.specs.Alive.{allowed, IsAlive}
use Rattle.world_model.specs.Trial.{points_by_trial}
use Rattle.bit_rows.specs.Rows.{BitRows}
use Rattle.point_ladder.specs.Bounds.{HoldsPoints}
use Rattle.point_frames.specs.Frames.{IsNarrowed}
use Rattle.point_ladder.specs.Ladders.{IsFrame}

-- the problem with other narrowings
abbrev pub with_narrowings : Problem → List Constraint → Problem
with_narrowings p ns = record p { narrowings = ns }

-- no world is left where a problem has some narrowings
abbrev pub IsBarren : Problem → List Constraint → Type 0
IsBarren p ns = (t : List Rel) → IsPossibleWorld (with_narrowings p ns) t → ⊥

-- a pair of which nothing is said yet: it does not lie before the end of a path, nor among the pairs that were tried
pub record IsFreeAt (p : Problem) (from : ℕ) (tried : List ℕ) (pair : ℕ) : Type 0 where
  pub within : pair < pair_count p
  pub behind : from ≤ pair
  pub apart : Contains tried pair → ⊥

-- a frame of a problem that is alive with some narrowings, which say nothing of the free pairs
pub record IsStand (p : Problem) (sets : List RelSet) (from : ℕ) (tried : List ℕ) (rows : BitRows) (ns : List Constraint) : Type 0 where
  pub alive : IsAlive (with_narrowings p ns)
  pub holds : HoldsPoints (with_narrowings p ns) (points_by_trial p)
  pub frame : IsFrame (with_narrowings p ns) (points_by_trial p) rows
  pub free : (k : ℕ) (d : RelSet) → IsFreeAt p from tried k → slice_index_or sets k d ≡ allowed (with_narrowings p ns) (pair_at p k)

-- no world lies behind a frame, whatever its narrowings are
abbrev pub LiesNone : Problem → List RelSet → ℕ → List ℕ → BitRows → Type 0
LiesNone p sets from tried rows = (ns : List Constraint) → IsStand p sets from tried rows ns → IsBarren p ns

-- none lies behind it where a relation holds of two sets besides
pub record LiesNoneBy (p : Problem) (sets : List RelSet) (from : ℕ) (tried : List ℕ) (rows : BitRows) (left right : ℕ → Bool) (rel : Rel) : Type 0 where
  pub next : BitRows
  pub narrowed : IsNarrowed rows next left right (row_of rel)
  pub none : LiesNone p sets from tried next

-- and so for each relation of a set
abbrev pub AreNoneBy : Problem → List RelSet → ℕ → List ℕ → BitRows → (ℕ → Bool) → (ℕ → Bool) → RelSet → Type 0
AreNoneBy p sets from tried rows left right set = (rel : Rel) → IsTrue (has set rel) → LiesNoneBy p sets from tried rows left right rel
