-- What comes of a clause that hints are to show, from what the solver says of it.
use Rattle.std.proofs.Common.{◌≡◌, ℕ, List, Option, Some, None, Result, Ok, Err}
use Rattle.std.specs.Prelude.{◌≢◌, MatchOption, IfOk, IfSome, IfNone}
use Rattle.lits_core.specs.Derivation.{live_clause, hints_fault, SameLits}
use Rattle.watch_arena.specs.Trails.{AreInRange}
use Rattle.learn_solver.specs.Solving.{SolverState}
use Rattle.learn_solver.specs.Hints.{Derives, IsShown, IsDerived}

-- an id is answered: the clause is shown, named and derived
pub derived_at : {E : Type 0} (r : Result (Option ℕ) E) (old new : SolverState) (lits hints : List ℕ) → AreInRange lits old.variables →
    IfOk r (λ o. IfSome o (λ _. hints_fault old.state hints lits ≡ None)) → IfOk r (λ o. IfSome o (λ id. MatchOption (live_clause new.state id) ⊥ (SameLits lits))) →
    IfOk r (λ o. IfSome o (Derives old new lits hints)) → IfOk r (λ o. IfSome o (IsDerived old new lits hints))
derived_at (Ok (Some id)) old new lits hints range shown named line = record { shown = record { range = range; shown = shown }; named = named; line = line }
derived_at (Ok None) old new lits hints range shown named line = tt
derived_at (Err e) old new lits hints range shown named line = tt

-- none is answered: hints that leave a fault show nothing
pub none_shown : {E : Type 0} (r : Result (Option ℕ) E) (s : SolverState) (lits hints : List ℕ) → IfOk r (λ o. IfNone o (hints_fault s.state hints lits ≢ None)) →
    IfOk r (λ o. IfNone o (IsShown s lits hints → ⊥))
none_shown (Ok (Some id)) s lits hints fault = tt
none_shown (Ok None) s lits hints fault = λ shown. fault shown.shown
none_shown (Err e) s lits hints fault = tt
