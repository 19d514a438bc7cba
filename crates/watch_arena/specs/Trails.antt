-- What a trail is seen as, and what its calls promise.
use Rattle.std.specs.Prelude.{◌≡◌, ◌≢◌, ℕ, ◌+◌, ◌<◌, ◌≤◌, true, false, List, [], ◌∷◌, ◌++◌, length, take, Some, MatchOption, IsPermutation, Contains, nat_le, filter}
use Rattle.lits_core.specs.Literals.{variable_of}
use Rattle.clause_arena.specs.Records.{Record, record_at, new_record, compacted}
use Rattle.clause_arena.specs.Movings.{place_after}
use Rattle.watch_arena.specs.declared.places.Place.{Place}
use Rattle.watch_arena.specs.Places.{place_at, places_with, is_false, level_of, is_false_clause, is_unit_clause}

-- the records of the clauses, the places in the order in which their literals became true, the number of variables, the level, and for how many records there is room to compact
pub record TrailState : Type 0 where
  pub records : List Record
  pub places : List Place
  pub variables : ℕ
  pub level : ℕ
  pub spare : ℕ

-- a record is the reason of a literal: it is live and has the literal, and its other literals are false by these places
pub record IsReason (records : List Record) (places : List Place) (lit at : ℕ) : Type 0 where
  pub live : (record_at records at).live ≡ true
  pub has : Contains (record_at records at).lits lit
  pub others : (m : ℕ) → Contains (record_at records at).lits m → m ≢ lit → is_false places m ≡ true

-- what is so of a trail at any time
pub record IsTrail (t : TrailState) : Type 0 where
  pub reasons : (p at : ℕ) → p < length t.places → (place_at t.places p).reason ≡ Some at → IsReason t.records (take p t.places) (place_at t.places p).lit at
  pub variable_once : (p q : ℕ) → p < q → q < length t.places → variable_of (place_at t.places p).lit ≢ variable_of (place_at t.places q).lit
  pub places_in_range : (p : ℕ) → p < length t.places → variable_of (place_at t.places p).lit < t.variables
  pub lits_in_range : (at lit : ℕ) → Contains (record_at t.records at).lits lit → variable_of lit < t.variables
  pub levels : (p : ℕ) → p < length t.places → (place_at t.places p).level ≡ level_of (take (p + 1) t.places)
  pub level : t.level ≡ level_of t.places

-- a record that stayed itself: only the order of its literals and its links may have changed
pub record IsSameRecord (old new : Record) : Type 0 where
  pub id : new.id ≡ old.id
  pub live : new.live ≡ old.live
  pub lits : IsPermutation old.lits new.lits

-- records that stayed themselves, each under its Ref
pub record SameRecords (old new : List Record) : Type 0 where
  pub count : length new ≡ length old
  pub each : (at : ℕ) → IsSameRecord (record_at old at) (record_at new at)

-- what propagation keeps, and how each of its new places came about
pub record Propagates (old new : TrailState) : Type 0 where
  pub records : SameRecords old.records new.records
  pub places : take (length old.places) new.places ≡ old.places
  pub level : new.level ≡ old.level
  pub variables : new.variables ≡ old.variables
  pub at_the_level : (p : ℕ) → length old.places ≤ p → p < length new.places → (place_at new.places p).level ≡ old.level
  pub implied : (p : ℕ) → length old.places ≤ p → p < length new.places → MatchOption (place_at new.places p).reason ⊥ (λ at. IsReason new.records (take p new.places) (place_at new.places p).lit at)

-- a live clause all of whose literals are false
pub record IsConflict (t : TrailState) (at : ℕ) : Type 0 where
  pub live : (record_at t.records at).live ≡ true
  pub all_false : is_false_clause t.places (record_at t.records at).lits ≡ true

-- no live clause is false, and none is unit
pub record IsPropagated (t : TrailState) : Type 0 where
  pub no_false : (at : ℕ) → (record_at t.records at).live ≡ true → is_false_clause t.places (record_at t.records at).lits ≡ false
  pub no_unit : (at : ℕ) → (record_at t.records at).live ≡ true → is_unit_clause t.places (record_at t.records at).lits ≡ false

-- one more record, of these literals in some order, and nothing else
pub record Adds (old new : TrailState) (lits : List ℕ) (id : ℕ) : Type 0 where
  pub records : SameRecords (old.records ++ new_record id lits ∷ []) new.records
  pub places : new.places ≡ old.places
  pub variables : new.variables ≡ old.variables
  pub level : new.level ≡ old.level

-- the live records are left, in their order, and each reason is the same record as before
pub record IsCompacted (old new : TrailState) : Type 0 where
  pub records : SameRecords (compacted old.records) new.records
  pub places : new.places ≡ places_with (place_after old.records) old.places
  pub variables : new.variables ≡ old.variables
  pub level : new.level ≡ old.level

-- the literals are of the first variables
abbrev pub AreInRange : List ℕ → ℕ → Type 0
AreInRange lits variables = (lit : ℕ) → Contains lits lit → variable_of lit < variables

-- a record is the reason of no place
abbrev pub IsNoReason : List Place → ℕ → Type 0
IsNoReason places at = (p : ℕ) → p < length places → (place_at places p).reason ≢ Some at

-- the places up to a level
abbrev pub places_up_to : List Place → ℕ → List Place
places_up_to places level = filter (λ p. nat_le p.level level) places
