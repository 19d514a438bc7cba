-- What an accepted listing shows of each table between its start and its stop: a family that has it, or why no family has.
use Rattle.std.specs.Prelude.{◌≡◌, ℕ, ◌⊎◌, List, ◌∷◌, ◌++◌, length, Option, Contains, IsTrue}
use Rattle.rcc5_core.specs.declared.Rel.{Rel}
use Rattle.lits_core.specs.Derivation.{first_state, state_after, is_valid_derivation}
use Rattle.world_model.specs.Problem.{Problem, pair_count}
use Rattle.world_model.specs.Family.{Family}
use Rattle.world_model.specs.Listing.{Begins, is_between}
use Rattle.world_model.specs.Alive.{problem_at, IsAlive}
use Rattle.constraint_set.specs.Facts.{IsBuilt}
use Rattle.point_encode.specs.Model.Clauses.{given_clauses}
use Rattle.cert_text.specs.declared.line.CertLine.{CertLine}
use Rattle.cert_text.specs.declared.line.CertLine.TheVariants.{World}
use Rattle.cert_text.specs.Ends.{TextEnd}
use Rattle.cert_rules.specs.Files.{Listing, Accepts, answer_of}
use Rattle.cert_rules.specs.Laws.{LeavesAllowed, is_leaf}
use Rattle.cert_rules.specs.Shape.{proof_lines}
use Rattle.cert_rules.specs.Writing.{TellsOf}

-- one of the lines says of a node what is so, by a live clause of the valid derivation before it
pub record SaysOf (p : Problem) (lines : List CertLine) (m : List Rel) (line : CertLine) : Type 0 where
  pub before : List CertLine
  pub after : List CertLine
  pub split : lines ≡ before ++ line ∷ after
  pub derivation : IsTrue (is_valid_derivation (first_state (given_clauses p)) (proof_lines before))
  pub tells : TellsOf p (state_after (first_state (given_clauses p)) (proof_lines before)) m line

-- a family stands there that meets the problem and has the table
pub record IsShownThere (p : Problem) (lines : List CertLine) (table : List Rel) : Type 0 where
  pub depth : ℕ
  pub last : Option Rel
  pub family : Family
  pub says : SaysOf p lines table (World depth last family)

-- a line says of a prefix of the table that a need has no point there, by a live clause, or that a pair allows nothing there
pub record IsRefutedThere (p : Problem) (lines : List CertLine) (table : List Rel) : Type 0 where
  pub prefix : List Rel
  pub begins : Begins prefix table
  pub line : CertLine
  pub leaf : IsTrue (is_leaf line)
  pub says : SaysOf p lines prefix line
  pub dead : IsAlive (problem_at p prefix) → ⊥

-- each world has its family there, and each other table between start and stop, unless one pair excludes it, its refutation
pub record ShowsAll (p : Problem) (from : List Rel) (to : Option (List Rel)) (worlds : List (List Rel)) (lines : List CertLine) : Type 0 where
  pub worlds_are_shown : (table : List Rel) → Contains worlds table → IsShownThere p lines table
  pub missing_are_refuted : (table : List Rel) → length table ≡ pair_count p → IsTrue (is_between from to table) → (Contains worlds table → ⊥) →
      LeavesAllowed p table ⊎ IsRefutedThere p lines table

-- so do the lines of a whole certificate that is accepted as a listing, whatever kinds of faults its text may have
abbrev pub AcceptedShowsAll : Type 0 → Type 0
AcceptedShowsAll K = (p : Problem) → IsBuilt p → (lines : List CertLine) (end : TextEnd K) (from : List Rel) (to : Option (List Rel)) (worlds : List (List Rel)) →
    answer_of p lines end ≡ Accepts (Listing from to worlds) → ShowsAll p from to worlds lines
