-- What the command answers that tells why the relation of two concepts is one of a set.
use Rattle.std.specs.Prelude.{◌≡◌, ◌==◌, ◌⊎◌, ℕ, nat_lt, Bool, List, [], ◌++◌, length, Option, None, Some, IfSome, Result, Ok, Err, if◌then◌else◌, codes, decimal}
use Rattle.outer_store.specs.Contents.{Contents}
use Rattle.rcc5_core.specs.declared.RelSet.{RelSet}
use Rattle.rcc5_core.specs.RelationSet.{converses}
use Rattle.world_model.specs.Family.{Family}
use Rattle.world_model.specs.Problem.{Problem}
use Rattle.cleantax_text.specs.declared.TextKind.{TextKind}
use Rattle.cleantax_text.specs.Reading.{text_result}
use Rattle.cleantax_text.specs.Canonical.{concept_named}
use Rattle.conflict_min.specs.Conflicts.{all_kept, places_from}
use Rattle.conflict_lattice.specs.Explaining.{IsLeastEntailing, IsCounter}
use Rattle.command_line.specs.declared.request.ExplainArgs.{ExplainArgs}
use Rattle.run_ends.specs.declared.PairKind.{PairKind}
use Rattle.run_ends.specs.declared.PairKind.TheVariants.{UnknownConcept, SameConcept}
use Rattle.run_ends.specs.declared.Status.{Status}
use Rattle.run_ends.specs.declared.Status.TheVariants.{Done, RefusedText, RefusedPair, NotEntailed}
use Rattle.run_ends.specs.Ends.{line_of, end_line}
use Rattle.run_ends.specs.Runs.{File}
use Rattle.claims_run.specs.Answering.{numbered_lines}

-- two concepts that differ, where there are two
abbrev pub two_of : Option ℕ → Option ℕ → Result (ℕ × ℕ) PairKind
two_of None right = Err UnknownConcept
two_of (Some a) None = Err UnknownConcept
two_of (Some a) (Some b) = if a == b then Err SameConcept else Ok (a, b)

-- the concepts that two words name, or why they name no pair
abbrev pub named_pair : Problem → List ℕ → List ℕ → Result (ℕ × ℕ) PairKind
named_pair p left right = two_of (concept_named p left) (concept_named p right)

-- a pair and a set of its relations; where its left is the greater, it is turned round, and the set is that of the converses
abbrev pub turned : ℕ × ℕ → RelSet → (ℕ × ℕ) × RelSet
turned pair set = if nat_lt pair.1 pair.0 then ((pair.1, pair.0), converses set) else (pair, set)

-- the line of so many statements
abbrev pub count_line : ℕ → List ℕ
count_line count = line_of (codes "explain " ++ decimal count)

-- how many statements there are, and each with its number
abbrev pub reason_text : Problem → List Bool → List ℕ
reason_text p kept = count_line (length (places_from 0 kept)) ++ numbered_lines p 1 p.articulations kept

-- just the last line of a status is put
abbrev pub IsEndAlone : Status → Status → List ℕ → List File → Type 0
IsEndAlone end status text files = (status ≡ end) × (text ≡ end_line end) × (files ≡ [])

-- the least statements are put from which it follows that a pair's relation is in a set
pub record IsLeastPut (p : Problem) (pair : ℕ × ℕ) (set : RelSet) (status : Status) (text : List ℕ) (files : List File) : Type 0 where
  pub kept : List Bool
  pub least : IsLeastEntailing p pair set kept
  pub ended : status ≡ Done
  pub put : text ≡ reason_text p kept
  pub none_written : files ≡ []

-- it doesn't follow: a family that meets the problem has another relation
pub record IsNotEntailed (p : Problem) (pair : ℕ × ℕ) (set : RelSet) (status : Status) (text : List ℕ) (files : List File) : Type 0 where
  pub family : Family
  pub counter : IsCounter p (all_kept p) pair set family
  pub alone : IsEndAlone NotEntailed status text files

-- what comes of a pair and a set: one or the other
abbrev pub IsQuestionAnswer : Problem → (ℕ × ℕ) × RelSet → Status → List ℕ → List File → Type 0
IsQuestionAnswer p question status text files = IsLeastPut p question.0 question.1 status text files ⊎ IsNotEntailed p question.0 question.1 status text files

-- what comes of two words and a set
abbrev pub IsPairAnswer : Problem → Result (ℕ × ℕ) PairKind → RelSet → Status → List ℕ → List File → Type 0
IsPairAnswer p (Ok pair) set status text files = IsQuestionAnswer p (turned pair set) status text files
IsPairAnswer p (Err kind) set status text files = IsEndAlone (RefusedPair kind) status text files

-- what comes of a problem's text
abbrev pub IsAnswerBy : Result Problem (ℕ × TextKind) → ExplainArgs → Status → List ℕ → List File → Type 0
IsAnswerBy (Ok p) args status text files = IsPairAnswer p (named_pair p args.left args.right) args.set status text files
IsAnswerBy (Err fault) args status text files = IsEndAlone (RefusedText fault.0 fault.1) status text files

-- the answers to a question about the problem under a name
pub record IsExplainAnswer (args : ExplainArgs) (held : Contents) (status : Status) (text : List ℕ) (files : List File) : Type 0 where
  pub bytes : List ℕ
  pub told : IfSome (held args.input) (λ all. bytes ≡ all)
  pub answer : IsAnswerBy (text_result bytes args.switches) args status text files
