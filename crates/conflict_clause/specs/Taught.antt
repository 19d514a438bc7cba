-- What a conflict teaches: a clause that the live clauses give, and the hints that show it, in order.
use Rattle.std.specs.Prelude.{◌≡◌, ℕ, ◌==◌, ◌<◌, ◌≤◌, ◌⊎◌, Bool, true, ◌&&◌, List, ◌∷◌, Option, Some, None, MatchOption, Contains, IsTrue}
use Rattle.std.specs.Option.{option_map_or}
use Rattle.std.specs.List.{list_any}
use Rattle.lits_core.specs.Literals.{negation_of, variable_of}
use Rattle.lits_core.specs.Derivation.{State, live_clause, hints_fault, SameLits}
use Rattle.clause_arena.specs.Records.{Record, record_at}
use Rattle.watch_arena.specs.declared.places.Place.{Place}
use Rattle.watch_arena.specs.Places.{place_at, place_of, is_assumed, is_false_clause}
use Rattle.watch_arena.specs.Trails.{TrailState, AreInRange}

-- a state has the clause of each live record under its id, with the same literals
pub record HoldsRecords (state : State) (records : List Record) : Type 0 where
  pub each : (at : ℕ) → (record_at records at).live ≡ true → MatchOption (live_clause state (record_at records at).id) ⊥ (λ c. SameLits c (record_at records at).lits)

-- hints show a clause: they have no fault, whatever the state that holds the records
abbrev pub IsShown : List Record → List ℕ → List ℕ → Type 0
IsShown records lits hints = (state : State) → HoldsRecords state records → hints_fault state hints lits ≡ None

-- some live record has an id
pub record IsLiveId (records : List Record) (id : ℕ) : Type 0 where
  pub at : ℕ
  pub live : (record_at records at).live ≡ true
  pub named : (record_at records at).id ≡ id

-- the level at which a literal's variable came to its value, 0 where it has none
abbrev pub level_in : List Place → ℕ → ℕ
level_in places lit = option_map_or (λ p. (place_at places p).level) (place_of places (variable_of lit)) 0

-- whether a literal was assumed
abbrev pub is_decided : List Place → ℕ → Bool
is_decided places lit = list_any (λ p. (p.lit == lit) && is_assumed p) places

-- a clause that live clauses give, as the hints show
pub record IsTaught (t : TrailState) (lits hints : List ℕ) : Type 0 where
  pub shown : IsShown t.records lits hints
  pub of_live : (hint : ℕ) → Contains hints hint → IsLiveId t.records hint
  pub in_range : AreInRange lits t.variables

-- a taught clause that is false, its first literal by the current level and the others by levels up to one below it, so
-- that it implies its first literal there
pub record IsLearnt (t : TrailState) (lits hints : List ℕ) (back : ℕ) : Type 0 where
  pub taught : IsTaught t lits hints
  pub all_false : IsTrue (is_false_clause t.places lits)
  pub first : ℕ
  pub others : List ℕ
  pub split : lits ≡ first ∷ others
  pub at_the_level : level_in t.places first ≡ t.level
  pub up_to : (lit : ℕ) → Contains others lit → level_in t.places lit ≤ back
  pub below : back < t.level

-- each literal of a clause is the negation of an assumed one, or the one literal that is let stand
abbrev pub AreClosed : List Place → Option ℕ → List ℕ → Type 0
AreClosed places stands lits = (lit : ℕ) → Contains lits lit → (stands ≡ Some lit) ⊎ IsTrue (is_decided places (negation_of lit))

-- a taught clause of such literals
pub record IsClosing (t : TrailState) (stands : Option ℕ) (lits hints : List ℕ) : Type 0 where
  pub taught : IsTaught t lits hints
  pub closed : AreClosed t.places stands lits
