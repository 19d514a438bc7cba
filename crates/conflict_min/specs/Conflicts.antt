-- The least conflict of a problem's articulations, what shows that it is tight, and what is claimed of it.
use Rattle.std.specs.Prelude.{◌≡◌, ℕ, ◌+◌, Bool, true, false, List, [], ◌∷◌, ◌++◌, length, map, Some, slice_get, set, Result, Ok, Err, Contains, All}
use Rattle.world_model.specs.Problem.{Problem, restricted}
use Rattle.world_model.specs.Family.{Family}
use Rattle.world_model.specs.Questions.{IsLeastConflict}
use Rattle.cert_text.specs.declared.line.Subject.TheVariants.{Kept}
use Rattle.cert_rules.specs.ClaimLists.{Claim}
use Rattle.search_log.specs.declared.fault.StepFault.{StepFault}
use Rattle.search_log.specs.declared.fault.StepFault.TheVariants as step
use Rattle.set_family.specs.Meeting.{IsMetBy}
use Rattle.pick_search.specs.Blocks.Blocks.{claimed}
use Rattle.conflict_min.specs.declared.conflict.Conflict.{Conflict}
use Rattle.conflict_min.specs.declared.conflict.ConflictFault.{ConflictFault}
use Rattle.conflict_min.specs.declared.conflict.ConflictFault.TheVariants.{Consistent, LogFailed, NoMemory}
use Rattle.conflict_min.specs.declared.conflict.Outcome.{Outcome}
use Rattle.conflict_min.specs.declared.conflict.Outcome.TheVariants as found

-- each articulation is kept
abbrev pub all_kept : Problem → List Bool
all_kept p = map (λ _. true) p.articulations

-- the places of the flags that are true, from a number on
abbrev pub places_from : ℕ → List Bool → List ℕ
places_from k [] = []
places_from k (true ∷ flags) = k ∷ places_from (k + 1) flags
places_from k (false ∷ flags) = places_from (k + 1) flags

-- there is a family for each articulation that is kept, in order: it meets the problem where just this one of them is not
pub record AreLosses (p : Problem) (kept : List Bool) (families : List Family) : Type 0 where
  pub count : length families ≡ length (places_from 0 kept)
  pub each : (m place : ℕ) (f : Family) → slice_get (places_from 0 kept) m ≡ Some place → slice_get families m ≡ Some f →
      IsMetBy (restricted p (set kept place false)) f

-- the least conflict, and what shows that it is tight
abbrev pub IsLeast : Problem → Conflict → Type 0
IsLeast p conflict = IsLeastConflict p conflict.kept.items × AreLosses p conflict.kept.items conflict.families.items

-- a family that meets the problem with all its articulations; or the least conflict
abbrev pub IsFound : Problem → Outcome → Type 0
IsFound p (found.Consistent f) = IsMetBy (restricted p (all_kept p)) f
IsFound p (found.Least conflict) = IsLeast p conflict

-- the claims that the articulations of a conflict hold together without any one of them
abbrev pub loss_claims : List Bool → List Claim
loss_claims kept = map (λ place. record { subject = Kept (set kept place false); holds = true }) (places_from 0 kept)

-- the claims of a conflict: that it doesn't hold, and those
abbrev pub conflict_claims : List Bool → List Claim
conflict_claims kept = claimed (Kept kept) false ++ loss_claims kept

-- what is claimed of the answer: that all articulations hold together, or the conflict, with more besides
abbrev pub IsClaimedOf : Problem → Outcome → List Claim → Type 0
IsClaimedOf p (found.Consistent f) more = more ≡ claimed (Kept (all_kept p)) true
IsClaimedOf p (found.Least conflict) more = All (Contains more) (conflict_claims conflict.kept.items)

-- an answer as that of a step
abbrev pub as_step : Result Conflict ConflictFault → Result Outcome StepFault
as_step (Ok conflict) = Ok (found.Least conflict)
as_step (Err (Consistent f)) = Ok (found.Consistent f)
as_step (Err LogFailed) = Err step.LogFailed
as_step (Err NoMemory) = Err step.NoMemory
