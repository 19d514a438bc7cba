-- What a solver is seen as, and what its calls promise.
use Rattle.std.specs.Prelude.{◌≡◌, ℕ, ◌≤◌, Bool, List, [], ◌∷◌, ◌++◌, length, All, AllPairs, ◌≢◌, Contains, MatchOption, IsTrue}
use Rattle.std.specs.List.{list_all}
use Rattle.lits_core.specs.declared.Line.{Line}
use Rattle.lits_core.specs.declared.Line.TheVariants.{Forget}
use Rattle.lits_core.specs.Literals.{negation_of, lit_true, meets_all}
pub use Rattle.lits_core.specs.Derivation.{FromOne}
use Rattle.lits_core.specs.Derivation.{State, live_clause, derived_clause, state_after, is_valid_derivation, has_distinct_ids, DerivedFollow, SameState}

-- the number of variables, the given clauses and the derived ones with their ids, the lines that wait to be taken, the ids
-- of the idle clauses (the derived ones that are the reason of no literal), and the literals that are held true, in the
-- order in which they became so
pub record SolverState : Type 0 where
  pub variables : ℕ
  pub state : State
  pub waiting : List Line
  pub idle : List ℕ
  pub assigned : List ℕ

-- lines lead from one state to another: they are valid in turn, and the last state has the same clauses, as sets
pub record Leads (one : State) (lines : List Line) (other : State) : Type 0 where
  pub valid : IsTrue (is_valid_derivation one lines)
  pub after : SameState (state_after one lines) other

-- a call came from old to new: it added lines to those that wait, which lead from the old state to the new one
pub record GoesTo (old new : SolverState) : Type 0 where
  pub variables : new.variables ≡ old.variables
  pub added : List Line
  pub waits : new.waiting ≡ old.waiting ++ added
  pub leads : Leads old.state added new.state
  pub from_one : All FromOne added

-- what is so of a solver at any time: its derived clauses follow from the given ones, ids are distinct, they are at least 1
-- in the lines that wait too, and each idle id is that of a derived clause, none twice
pub record IsSolver (s : SolverState) : Type 0 where
  pub follow : DerivedFollow s.state
  pub distinct : IsTrue (has_distinct_ids s.state)
  pub from_one : All (λ entry. 1 ≤ entry.0) s.state.derived
  pub waiting_from_one : All FromOne s.waiting
  pub idle_derived : (id : ℕ) → Contains s.idle id → MatchOption (derived_clause s.state.derived id) ⊥ (λ c. Unit {0})
  pub idle_once : AllPairs (λ a b. a ≢ b) s.idle

-- one more given clause, and nothing else
pub record AddsGiven (old new : SolverState) (lits : List ℕ) : Type 0 where
  pub variables : new.variables ≡ old.variables
  pub given : SameState (record { given = old.state.given ++ lits ∷ []; derived = old.state.derived }) new.state
  pub waiting : new.waiting ≡ old.waiting
  pub idle : new.idle ≡ old.idle

-- the line that some ids are forgotten by, if there are any
abbrev pub forgetting : List ℕ → List Line
forgetting [] = []
forgetting (id ∷ ids) = Forget (id ∷ ids) ∷ []

-- the idle clauses are forgotten, the line that says so waits last, and what is held true stays so
pub record IsTidied (old new : SolverState) : Type 0 where
  pub variables : new.variables ≡ old.variables
  pub idle : new.idle ≡ []
  pub waiting : new.waiting ≡ old.waiting ++ forgetting old.idle
  pub state : SameState (state_after old.state (forgetting old.idle)) new.state
  pub assigned : new.assigned ≡ old.assigned

-- no literal stands beside its negation
abbrev pub AreConsistent : List ℕ → Type 0
AreConsistent lits = (lit : ℕ) → Contains lits lit → Contains lits (negation_of lit) → ⊥

-- bits, one a variable, that meet the given clauses and the assumptions
pub record IsModel (s : SolverState) (assumptions : List ℕ) (bits : List Bool) : Type 0 where
  pub counted : length bits ≡ s.variables
  pub given : IsTrue (meets_all bits s.state.given)
  pub assumed : IsTrue (list_all (lit_true bits) assumptions)

-- each literal of a clause is the negation of an assumption
abbrev pub IsClosedBy : List ℕ → List ℕ → Type 0
IsClosedBy assumptions clause = (lit : ℕ) → Contains clause lit → Contains assumptions (negation_of lit)

-- an id names a live clause that the assumptions make false, and no bits meet the given clauses and the assumptions
pub record IsRefutation (s : SolverState) (assumptions : List ℕ) (id : ℕ) : Type 0 where
  pub named : MatchOption (live_clause s.state id) ⊥ (IsClosedBy assumptions)
  pub hopeless : (bits : List Bool) → IsTrue (meets_all bits s.state.given) → IsTrue (list_all (lit_true bits) assumptions) → ⊥
