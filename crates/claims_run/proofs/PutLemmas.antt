-- What an answer's text is, and that it is put in lines as it is.
use Rattle.std.proofs.Common.{◌≡◌, ℕ, ◌+◌, Bool, true, false, List, [], ◌∷◌, ◌++◌, length, sym, ap, subst, ◌∙◌, append_assoc, append-nil}
use Rattle.std.specs.Prelude.{codes, Result, Ok, Err, IfOk, decimal}
use Rattle.outer_store.specs.declared.fault.StoreFault.{StoreFault}
use Rattle.world_model.specs.declared.Articulation.{Articulation}
use Rattle.world_model.specs.Problem.{Problem, cross_pairs}
use Rattle.rcc5_core.specs.RelationSet.{has}
use Rattle.mir_report.specs.declared.possible.MirSets.{MirSets}
use Rattle.conflict_min.specs.Conflicts.{places_from}
use Rattle.conflict_lattice.proofs.Claiming.{lattice_minimal, lattice_maximal}
use Rattle.world_watch.specs.Kinds.{set_at, seen_lines}
use Rattle.run_ends.specs.Ends.{in_lines}
use Rattle.outer_store.specs.States.{SinkState}
use Rattle.run_ends.specs.Runs.{LeavesPiece}
use Rattle.run_ends.proofs.PieceLemmas.{IsEnded, ended_line, ended_behind, ended_lines}
use Rattle.claims_run.specs.declared.question.Answer.{Answer}
use Rattle.claims_run.specs.declared.question.Answer.TheVariants.{Possible, Consistent, Conflict, Lattice}
use Rattle.claims_run.specs.Answering.{IsTrueOf, count_line, numbered_line, numbered_lines, sets_text, lattice_line, answer_text}
use Rattle.claims_run.specs.Putting.{IsFlagged}

-- a true answer has one flag for each articulation
pub flagged : (p : Problem) (a : Answer) → IsTrueOf p a → IsFlagged p a
flagged p (Possible mir some) is = tt
flagged p Consistent is = tt
flagged p (Conflict kept) is = is.flags
flagged p (Lattice s) is = record {
  conflicts = λ k d low. (lattice_minimal p s is k d low).flags;
  consistent = λ k d low. (lattice_maximal p s is k d low).flags;
}

-- the lines of an answer end with a line feed
ended_numbered : (p : Problem) (number : ℕ) (rows : List Articulation) (flags : List Bool) (before : List ℕ) → IsEnded before → IsEnded (before ++ numbered_lines p number rows flags)
ended_numbered p number [] flags before ended = subst IsEnded (sym (append-nil before)) ended
ended_numbered p number (a ∷ more) [] before ended = subst IsEnded (sym (append-nil before)) ended
ended_numbered p number (a ∷ more) (true ∷ flags) before ended =
    subst IsEnded (append_assoc before (numbered_line p number a) (numbered_lines p (number + 1) more flags))
    (ended_numbered p (number + 1) more flags (before ++ numbered_line p number a) (ended_behind before (numbered_line p number a) (ended_line _)))
ended_numbered p number (a ∷ more) (false ∷ flags) before ended = ended_numbered p (number + 1) more flags before ended

ended_answer : (p : Problem) (a : Answer) → IsEnded (answer_text p a)
ended_answer p (Possible mir some) =
    ended_behind (seen_lines p (λ k. has (set_at mir.sets.items k))) (count_line (codes "mir") (length (cross_pairs p)))
    (ended_line (codes "mir" ++ 32 ∷ decimal (length (cross_pairs p))))
ended_answer p Consistent = ended_line (codes "consistent")
ended_answer p (Conflict kept) =
    ended_numbered p 1 p.articulations kept (count_line (codes "conflict") (length (places_from 0 kept)))
    (ended_line (codes "conflict" ++ 32 ∷ decimal (length (places_from 0 kept))))
ended_answer p (Lattice s) =
    ended_behind (sets_text (codes "conflicts") s.conflicts) (sets_text (codes "consistent") s.consistent ++ lattice_line s)
    (ended_behind (sets_text (codes "consistent") s.consistent) (lattice_line s)
    (ended_line (codes "lattice " ++ (decimal (length s.conflicts) ++ 32 ∷ decimal (length s.consistent)))))

-- so what is put in lines is the answer
pub answer_put : {T : Type 0} (p : Problem) (a : Answer) (text : List ℕ) (r : Result T StoreFault) (old new : SinkState) → text ≡ answer_text p a → LeavesPiece r (in_lines text) old new
    → LeavesPiece r (answer_text p a) old new
answer_put p a text r old new is put = subst (λ xs. LeavesPiece r xs old new) (ap in_lines is ∙ ended_lines (answer_text p a) (ended_answer p a)) put

-- the lines of possible relations do not hang on whether there is a world
pub possible_text : {V E : Type 0} (r : Result V E) (items : V → List ℕ) (p : Problem) (mir : MirSets) (some : Bool) (a : Answer) → a ≡ Possible mir some → IfOk r (λ t. (any : Bool) → items t ≡ answer_text p (Possible mir any))
    → IfOk r (λ t. items t ≡ answer_text p a)
possible_text (Ok v) items p mir some a is told = told some ∙ ap (answer_text p) (sym is)
possible_text (Err e) items p mir some a is told = tt
