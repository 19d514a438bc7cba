-- The parts of a solver: what is so of them, and what its steps keep.
use Rattle.std.specs.Prelude.{◌≡◌, ℕ, ◌+◌, ◌*◌, ◌<◌, ◌≤◌, ◌⊎◌, Bool, true, false, List, [], ◌∷◌, ◌++◌, length, map, drop, Option, Some, None, All, Contains, IsPermutation, slice_index_or}
use Rattle.lits_core.specs.Literals.{variable_of, is_negative}
use Rattle.lits_core.specs.Derivation.{DerivedFollow, SameState, state_after}
use Rattle.clause_arena.specs.Records.{Record, record_at, forgotten}
use Rattle.watch_arena.specs.declared.places.Place.{Place}
use Rattle.watch_arena.specs.Places.{is_true, is_assumed}
use Rattle.watch_arena.specs.Trails.{TrailState, places_up_to}
use Rattle.conflict_clause.specs.Taught.{AreClosed}
use Rattle.learn_solver.specs.declared.learner.Learner.{Learner}
use Rattle.learn_solver.specs.declared.solver.Answer.{Answer}
use Rattle.learn_solver.specs.Solving.{SolverState, FromOne, GoesTo, forgetting}
use Rattle.learn_solver.specs.Answers.{IsAnswer}
use Rattle.learn_solver.specs.States.{state_of, gone_from, idle_of, is_reason}
use Rattle.learn_solver.specs.Weights.{weight}
use Rattle.learn_solver.specs.Guides.{Guide, IsGuided, by_trail, lowered}

-- what the public sees
abbrev pub solver_state : Learner → SolverState
solver_state l = record {
  variables = l.trail.variables;
  state = state_of l.trail.records l.given;
  waiting = l.waiting.items;
  idle = idle_of l.trail.places l.trail.records l.given;
  assigned = map (λ p. p.lit) l.trail.places;
}

-- what it knows of the assumptions
abbrev pub guide_of : Learner → Guide
guide_of l = by_trail l.trail l.assumptions

-- records, of which the first ones are given clauses: all are live, and their ids ascend; those of the given ones are 1, 2
-- and so on
pub record AreRecords (records : List Record) (given : ℕ) : Type 0 where
  pub enough : given ≤ length records
  pub live : (at : ℕ) → at < length records → (record_at records at).live ≡ true
  pub numbered : (at : ℕ) → at < given → (record_at records at).id ≡ at + 1
  pub ascending : (a b : ℕ) → a < b → b < length records → (record_at records a).id < (record_at records b).id
  pub from_one : (at : ℕ) → at < length records → 1 ≤ (record_at records at).id
  pub follow : DerivedFollow (state_of records given)

-- no record has an id past this one
abbrev pub AreUpTo : List Record → ℕ → Type 0
AreUpTo records last = (at : ℕ) → at < length records → (record_at records at).id ≤ last

-- each variable that a given clause has positively is noted
abbrev pub AreNoted : List Record → ℕ → List Bool → Type 0
AreNoted records given noted =
    (at lit : ℕ) → at < given → Contains (record_at records at).lits lit → is_negative lit ≡ false → slice_index_or noted (variable_of lit) false ≡ true

-- whether a clause stays, by a list that tells it of each clause
abbrev pub stays_by : List Bool → ℕ → Bool
stays_by kept at = slice_index_or kept at true

-- a list tells of each clause whether it stays, and each reason does
pub record AreKept (kept : List Bool) (t : TrailState) : Type 0 where
  pub all : length kept ≡ length t.records
  pub reasons : (at : ℕ) → at < length t.records → is_reason t.places at ≡ true → stays_by kept at ≡ true

-- of the derived clauses just the reasons stay
abbrev pub AreReasons : List Bool → TrailState → ℕ → Type 0
AreReasons kept t given = (at : ℕ) → given ≤ at → at < length t.records → stays_by kept at ≡ is_reason t.places at

-- the ids of the derived clauses that don't stay
abbrev pub gone_of : Learner → List Bool → List ℕ
gone_of l kept = gone_from (stays_by kept) l.given (drop l.given l.trail.records)

-- the derived clauses that don't stay are live no more, and nothing else is changed
pub record Forgets (old new : TrailState) (given : ℕ) (stays : ℕ → Bool) : Type 0 where
  pub same : new ≡ record old { records = new.records }
  pub count : length new.records ≡ length old.records
  pub kept : (at : ℕ) → at < given ⊎ (stays at ≡ true) → record_at new.records at ≡ record_at old.records at
  pub gone : (at : ℕ) → given ≤ at → at < length old.records → stays at ≡ false → record_at new.records at ≡ forgotten (record_at old.records at)

-- what is so of the parts at any time
pub record IsLearner (l : Learner) : Type 0 where
  pub variables : l.variables ≡ l.trail.variables
  pub analyzer : l.analyzer ≡ l.trail.variables
  pub order : length l.order ≡ l.trail.variables
  pub records : AreRecords l.trail.records l.given
  pub last : AreUpTo l.trail.records l.last
  pub waiting : All FromOne l.waiting.items
  pub noted : AreNoted l.trail.records l.given l.order
  pub guided : IsGuided (guide_of l)

-- what each step keeps
pub record Steps (old new : Learner) : Type 0 where
  pub sound : IsLearner new
  pub goes : GoesTo (solver_state old) (solver_state new)
  pub variables : new.trail.variables ≡ old.trail.variables
  pub assumptions : new.assumptions.lits ≡ old.assumptions.lits

-- the derived clauses that don't stay are forgotten, by one line if there are any, and what is held true stays so
pub record Clears (old new : Learner) (kept : List Bool) : Type 0 where
  pub waiting : new.waiting.items ≡ old.waiting.items ++ forgetting (gone_of old kept)
  pub state : SameState (state_after (solver_state old).state (forgetting (gone_of old kept))) (solver_state new).state
  pub assigned : (solver_state new).assigned ≡ (solver_state old).assigned
  pub idle : AreReasons kept old.trail old.given → (solver_state new).idle ≡ []

-- the trail after going back to a level
abbrev pub backtracked : TrailState → ℕ → TrailState
backtracked t level = record t { places = places_up_to t.places level; level = level }

-- the trail goes back to a level, and what is known of the assumptions up to it stays known
abbrev pub Backtracks : Learner → Learner → ℕ → Type 0
Backtracks old new level = new ≡ record old { trail = backtracked old.trail level; assumptions = lowered old.assumptions level }

-- the places up to a level below stay, and one more is implied
pub record Backjumps (old new : TrailState) : Type 0 where
  pub back : ℕ
  pub last : Place
  pub below : back < old.level
  pub implied : is_assumed last ≡ false
  pub places : new.places ≡ places_up_to old.places back ++ last ∷ []
  pub variables : new.variables ≡ old.variables

-- an id is that of a record with such literals
pub record IsClosed (t : TrailState) (stands : Option ℕ) (id : ℕ) : Type 0 where
  pub at : ℕ
  pub within : at < length t.records
  pub named : (record_at t.records at).id ≡ id
  pub closed : AreClosed t.places stands (record_at t.records at).lits

-- a live record has these literals, in some order
pub record IsStored (t : TrailState) (lits : List ℕ) (at : ℕ) : Type 0 where
  pub within : at < length t.records
  pub live : (record_at t.records at).live ≡ true
  pub lits_are : IsPermutation lits (record_at t.records at).lits

-- the places stay
pub record KeepsPlaces (old new : TrailState) : Type 0 where
  pub places : new.places ≡ old.places
  pub level : new.level ≡ old.level
  pub variables : new.variables ≡ old.variables

-- only the trail, the waiting lines and the last id change
abbrev pub KeepsRest : Learner → Learner → Type 0
KeepsRest old new = new ≡ record old { trail = new.trail; waiting = new.waiting; last = new.last }

-- how much is left to do
abbrev pub burden : Learner → ℕ
burden l = weight l.trail.variables l.trail.places

-- a step of the search has an answer, or goes on with less to do
abbrev pub Serves : Learner → Learner → Option Answer → Type 0
Serves old new None = burden new < burden old
Serves old new (Some answer) = IsAnswer (solver_state new) old.assumptions.lits answer

-- a literal is assumed on a new level
abbrev pub assumed : TrailState → ℕ → TrailState
assumed t l = record t { places = t.places ++ record { lit = l; level = t.level + 1; reason = None } ∷ []; level = t.level + 1 }

-- bits have just the true positive literals
pub record AreBits (t : TrailState) (bits : List Bool) : Type 0 where
  pub counted : length bits ≡ t.variables
  pub each : (variable : ℕ) → slice_index_or bits variable false ≡ is_true t.places (2 * variable)

-- the trail stays or goes back, and what is known of the assumptions was found anew
pub record Reuses (old new : Learner) : Type 0 where
  pub same : new ≡ record old { trail = record old.trail { places = new.trail.places; level = new.trail.level }; assumptions = new.assumptions }
  pub lits : new.assumptions.lits ≡ old.assumptions.lits
  pub guided : IsGuided (guide_of new)
