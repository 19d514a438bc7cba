-- Problems whose pairs are narrowed one after the other, to relations with which they are alive by themselves.
use Rattle.std.specs.Prelude.{◌≡◌, ℕ, zero, suc, ◌≤◌, ◌↔◌, Bool, true, List, [], ◌∷◌, ◌++◌, Contains, slice_index_or, IsTrue}
use Rattle.rcc5_core.specs.declared.Rel.{Rel}
use Rattle.rcc5_core.specs.declared.RelSet.{RelSet}
use Rattle.rcc5_core.specs.Region.{row_of}
use Rattle.rcc5_core.specs.RelationSet.{has, every_rel}
use Rattle.world_model.specs.Problem.{Problem, Constraint, pair_count}
use Rattle.world_model.specs.Family.{IsPossibleWorld}
use Rattle.world_model.specs.Node.{pair_at}
use Rattle.world_model.specs.Alive.{is_point, IsAlive}
use Rattle.world_model.specs.Laws.{narrowed_by}
use Rattle.world_model.specs.Trial.{points_by_trial}
use Rattle.bit_rows.specs.Rows.{BitRows}
use Rattle.point_table.specs.Points.{AreAllowed}
use Rattle.point_ladder.specs.declared.bounds.Bounds.{Bounds}
use Rattle.point_frames.specs.Frames.{LeadsOn}
use Rattle.point_ladder.specs.Ladders.{IsFrame}

-- the first so many pairs, each with its set, as statements
abbrev pub bounds_of : Problem → List RelSet → ℕ → List Constraint
bounds_of p sets zero = []
bounds_of p sets (suc k) = bounds_of p sets k ++ record { left = (pair_at p k).0; right = (pair_at p k).1; set = slice_index_or sets k every_rel } ∷ []

-- the problem with its first so many pairs narrowed to their sets
abbrev pub bound_to : Problem → List RelSet → ℕ → Problem
bound_to p sets n = narrowed_by p (bounds_of p sets n)

-- each point of the problem is one of a list
abbrev pub HoldsPoints : Problem → List (List Bool) → Type 0
HoldsPoints q points = (bits : List Bool) → is_point q bits ≡ true → Contains points bits

-- a set has the relation, and what that says of two sets leads on
abbrev pub IsAliveIn : BitRows → (ℕ → Bool) → (ℕ → Bool) → RelSet → Rel → Type 0
IsAliveIn rows left right set rel = IsTrue (has set rel) × LeadsOn rows left right (row_of rel)

-- the bounds of a problem's first pairs: the problem that is narrowed to them has its worlds, and no other points if it is alive
pub record AreBounds (p : Problem) (b : Bounds) : Type 0 where
  pub few : b.count ≤ pair_count p
  pub sets_are : AreAllowed (bound_to p b.sets.items b.count) b.sets.items
  pub worlds : (t : List Rel) → IsPossibleWorld (bound_to p b.sets.items b.count) t ↔ IsPossibleWorld p t
  pub lives : IsTrue b.alive ↔ IsAlive (bound_to p b.sets.items b.count)
  pub holds : b.alive ≡ true → HoldsPoints (bound_to p b.sets.items b.count) (points_by_trial p)
  pub frame : b.alive ≡ true → IsFrame (bound_to p b.sets.items b.count) (points_by_trial p) b.frame
