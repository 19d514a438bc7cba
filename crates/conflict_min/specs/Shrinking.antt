-- How far the articulations have been gone through.
use Rattle.std.specs.Prelude.{◌≡◌, ℕ, ◌+◌, ◌≤◌, zero, suc, Bool, false, List, [], ◌∷◌, ◌++◌, length, take, drop, Some, slice_get, Contains, ◌⊎◌}
use Rattle.world_model.specs.Problem.{Problem, restricted}
use Rattle.world_model.specs.Family.{Family}
use Rattle.world_model.specs.Questions.{HasFlags, IsConsistent}
use Rattle.cert_text.specs.declared.line.Subject.TheVariants.{Kept}
use Rattle.cert_rules.specs.ClaimLists.{Claim}
use Rattle.set_family.specs.Meeting.{IsMetBy}
use Rattle.family_solver.specs.Kept.Keeping.{IsClash}
use Rattle.conflict_min.specs.Conflicts.{all_kept, places_from}
use Rattle.conflict_min.specs.declared.points.Course.{Course}

-- so many flags from a place on are taken off
abbrev pub cut : List Bool → ℕ → ℕ → List Bool
cut [] place count = []
cut (b ∷ kept) (suc place) count = b ∷ cut kept place count
cut (b ∷ kept) zero (suc count) = false ∷ cut kept zero count
cut (b ∷ kept) zero zero = b ∷ kept

-- so many articulations from a place on were dropped together, and no family meets what is kept
pub record IsCutOut (p : Problem) (place : ℕ) (old new : List Bool) (count : ℕ) : Type 0 where
  pub without : new ≡ cut old place count
  pub inconsistent : IsConsistent p new → ⊥

-- the flags that were tried without an articulation: those before it as they came out, and all behind it
abbrev pub without_at : Problem → List Bool → ℕ → List Bool
without_at p kept place = take place kept ++ false ∷ drop (place + 1) (all_kept p)

-- the first so many articulations were gone through: no family meets what is kept, all others are kept still, and there is a
-- family for each that was kept among the first
pub record IsShrunk (p : Problem) (count : ℕ) (kept : List Bool) (families : List Family) : Type 0 where
  pub flags : HasFlags p kept
  pub within : count ≤ length kept
  pub inconsistent : IsConsistent p kept → ⊥
  pub others : drop count kept ≡ drop count (all_kept p)
  pub counted : length families ≡ length (places_from 0 (take count kept))
  pub each : (m place : ℕ) (f : Family) → slice_get (places_from 0 (take count kept)) m ≡ Some place → slice_get families m ≡ Some f →
      IsMetBy (restricted p (without_at p kept place)) f

-- no articulation was dropped, or it is claimed that those left don't hold
abbrev pub IsDropped : List Bool → List Bool → List Claim → Type 0
IsDropped old new more = (new ≡ old) ⊎ Contains more (record { subject = Kept new; holds = false })

-- the first so many articulations were gone through, and some of those kept are known to be in conflict
pub record IsCourse (p : Problem) (count : ℕ) (course : Course) : Type 0 where
  pub shrunk : IsShrunk p count course.kept.items course.families.items
  pub clash : IsClash p course.kept.items course.core.items
