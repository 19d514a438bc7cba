-- What a call adds that derives a clause from hints.
use Rattle.std.specs.Prelude.{◌≡◌, ◌≢◌, ℕ, ◌<◌, ◌≤◌, List, [], ◌∷◌, ◌++◌, length, take, None, MatchOption}
use Rattle.lits_core.specs.Derivation.{State, live_clause, hints_fault, SameLits}
use Rattle.lits_core.specs.declared.Line.TheVariants.{Derive}
use Rattle.watch_arena.specs.Trails.{AreInRange}
use Rattle.learn_solver.specs.Solving.{SolverState}

-- so many of the first hints show a clause, and no fewer do
pub record Suffice (state : State) (lits hints : List ℕ) (count : ℕ) : Type 0 where
  pub within : count ≤ length hints
  pub shown : hints_fault state (take count hints) lits ≡ None
  pub fewest : (k : ℕ) → k < count → hints_fault state (take k hints) lits ≢ None

-- just one line more waits: it derives a clause by hints, under an id that no live clause had
pub record AddsLine (old new : SolverState) (lits hints : List ℕ) (id : ℕ) : Type 0 where
  pub fresh : live_clause old.state id ≡ None
  pub waits : new.waiting ≡ old.waiting ++ Derive id lits hints ∷ []

-- the line that is added has as many of the first hints as show its clause
pub record Derives (old new : SolverState) (lits hints : List ℕ) (id : ℕ) : Type 0 where
  pub count : ℕ
  pub enough : Suffice old.state lits hints count
  pub line : AddsLine old new lits (take count hints) id

-- literals are of a solver's variables, and hints show their clause by live ones
pub record IsShown (s : SolverState) (lits hints : List ℕ) : Type 0 where
  pub range : AreInRange lits s.variables
  pub shown : hints_fault s.state hints lits ≡ None

-- the clause was shown, an id names it now, and one line more waits, which derives it under that id by as many of the first hints
-- as show it
pub record IsDerived (old new : SolverState) (lits hints : List ℕ) (id : ℕ) : Type 0 where
  pub shown : IsShown old lits hints
  pub named : MatchOption (live_clause new.state id) ⊥ (SameLits lits)
  pub line : Derives old new lits hints id
