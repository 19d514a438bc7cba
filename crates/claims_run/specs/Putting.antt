-- The lines of an answer while they are made.
use Rattle.std.specs.Prelude.{◌≡◌, ℕ, ◌+◌, List, ◌++◌, Some, slice_get, All, ⊤}
use Rattle.world_model.specs.declared.Articulation.{Articulation}
use Rattle.world_model.specs.Problem.{Problem}
use Rattle.world_model.specs.Questions.{HasFlags}
use Rattle.conflict_lattice.specs.Subsets.{Subsets}
use Rattle.claims_run.specs.declared.question.Answer.{Answer}
use Rattle.claims_run.specs.declared.question.Answer.TheVariants.{Possible, Consistent, Conflict, Lattice}
use Rattle.claims_run.specs.Answering.{numbered_line}

-- each set has one flag for each articulation
pub record AreFlagged (p : Problem) (s : Subsets) : Type 0 where
  pub conflicts : All (HasFlags p) s.conflicts
  pub consistent : All (HasFlags p) s.consistent

-- the flags of an answer are one for each articulation
abbrev pub IsFlagged : Problem → Answer → Type 0
IsFlagged p (Possible mir some) = ⊤
IsFlagged p Consistent = ⊤
IsFlagged p (Conflict kept) = HasFlags p kept
IsFlagged p (Lattice s) = AreFlagged p s

-- the line of the articulation at a place is put behind a text
abbrev pub IsNumberedAt : Problem → ℕ → List ℕ → List ℕ → Type 0
IsNumberedAt p index old new = (a : Articulation) → slice_get p.articulations index ≡ Some a → new ≡ old ++ numbered_line p (index + 1) a
