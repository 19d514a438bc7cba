-- What is printed reads back.
use Rattle.std.specs.Prelude.{◌≤◌, ℕ, List, length}
use Rattle.world_model.specs.Problem.{Problem}
use Rattle.world_model.specs.declared.Switches.{Switches}
use Rattle.cleantax_text.specs.Reading.{IsProblemText}
use Rattle.cleantax_text.specs.Canonical.{canonical_text}

-- a text reads as this problem, under the switches under which some text does, unless it is too long to be read
abbrev pub ReadsBack : List ℕ → Problem → Type 0
ReadsBack text p = (bytes : List ℕ) (switches : Switches) → IsProblemText bytes switches p → length text ≤ 1048576 → IsProblemText text switches p

-- the canonical text of each problem reads as this problem
abbrev pub PrintingReadsBack : Type 0
PrintingReadsBack = (p : Problem) → ReadsBack (canonical_text p) p
