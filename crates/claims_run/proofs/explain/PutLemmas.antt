-- The lines of a reason are put as they are.
use Rattle.std.proofs.Common.{◌≡◌, ℕ, ◌+◌, true, false, Bool, List, [], ◌∷◌, ◌++◌, length, sym, ap, subst, ◌∙◌, append_assoc, append-nil}
use Rattle.std.specs.Prelude.{codes, decimal, Result}
use Rattle.outer_store.specs.declared.fault.StoreFault.{StoreFault}
use Rattle.outer_store.specs.States.{SinkState}
use Rattle.world_model.specs.declared.Articulation.{Articulation}
use Rattle.world_model.specs.Problem.{Problem}
use Rattle.conflict_min.specs.Conflicts.{places_from}
use Rattle.run_ends.specs.Ends.{in_lines}
use Rattle.run_ends.specs.Runs.{LeavesPiece}
use Rattle.run_ends.proofs.PieceLemmas.{IsEnded, ended_line, ended_behind, ended_lines}
use Rattle.claims_run.specs.Answering.{numbered_line, numbered_lines}
use Rattle.claims_run.specs.Explain.Answering.{count_line, reason_text}

-- behind a line there are lines
ended_numbered : (p : Problem) (number : ℕ) (rows : List Articulation) (flags : List Bool) (before : List ℕ) → IsEnded before → IsEnded (before ++ numbered_lines p number rows flags)
ended_numbered p number [] flags before ended = subst IsEnded (sym (append-nil before)) ended
ended_numbered p number (a ∷ more) [] before ended = subst IsEnded (sym (append-nil before)) ended
ended_numbered p number (a ∷ more) (true ∷ flags) before ended =
    subst IsEnded (append_assoc before (numbered_line p number a) (numbered_lines p (number + 1) more flags))
    (ended_numbered p (number + 1) more flags (before ++ numbered_line p number a) (ended_behind before (numbered_line p number a) (ended_line _)))
ended_numbered p number (a ∷ more) (false ∷ flags) before ended = ended_numbered p (number + 1) more flags before ended

ended_reason : (p : Problem) (kept : List Bool) → IsEnded (reason_text p kept)
ended_reason p kept = ended_numbered p 1 p.articulations kept (count_line (length (places_from 0 kept))) (ended_line (codes "explain " ++ decimal (length (places_from 0 kept))))

-- so what is put in lines is the text
pub reason_put : {T : Type 0} (p : Problem) (kept : List Bool) (text : List ℕ) (r : Result T StoreFault) (old new : SinkState) → text ≡ reason_text p kept → LeavesPiece r (in_lines text) old new
    → LeavesPiece r (reason_text p kept) old new
reason_put p kept text r old new is put = subst (λ xs. LeavesPiece r xs old new) (ap in_lines is ∙ ended_lines (reason_text p kept) (ended_reason p kept)) put
