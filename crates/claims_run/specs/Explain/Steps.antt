-- The steps of an answer.
use Rattle.std.specs.Prelude.{◌≡◌, ◌≢◌, ◌<◌, ◌⊎◌, ℕ, Bool, List, [], Option, None, Some}
use Rattle.rcc5_core.specs.declared.RelSet.{RelSet}
use Rattle.world_model.specs.Family.{Family}
use Rattle.world_model.specs.Problem.{Problem, concept_count}
use Rattle.conflict_min.specs.Conflicts.{all_kept}
use Rattle.conflict_lattice.specs.Explaining.{IsLeastEntailing, IsCounter}
use Rattle.run_ends.specs.declared.Status.{Status}
use Rattle.run_ends.specs.declared.Status.TheVariants.{NoMemory}
use Rattle.run_ends.specs.Ends.{end_line}
use Rattle.run_ends.specs.Runs.{File, Answered, ending_of}

-- two concepts of a problem that differ
pub record ArePair (p : Problem) (pair : ℕ × ℕ) : Type 0 where
  pub left : pair.0 < concept_count p
  pub right : pair.1 < concept_count p
  pub apart : pair.0 ≢ pair.1

-- a status whose last line is the answer, or memory was wanting
abbrev pub IsEndOf : (Status → List ℕ → List File → Type 0) → Status → Type 0
IsEndOf answers status = (answers status (end_line status) [] × (ending_of status ≡ Answered)) ⊎ (status ≡ NoMemory)

-- a reason is right: the least statements; or there is none, since a family that meets the problem has another relation
abbrev pub IsReason : Problem → ℕ × ℕ → RelSet → Option (List Bool) → Type 0
IsReason p pair set (Some kept) = IsLeastEntailing p pair set kept
IsReason p pair set None = (f : Family) × IsCounter p (all_kept p) pair set f
