-- What a search back through a trail has come to. It goes through the places from the top down, and looks at those whose
-- variables were seen.
use Rattle.std.specs.Prelude.{◌≡◌, ℕ, ◌<◌, ◌≤◌, ◌⊎◌, Bool, true, false, List, [], ◌∷◌, ◌++◌, length, reverse, slice_index_or, Some, None, MatchOption, slice_get, Contains, All, IsPermutation, IsTrue}
use Rattle.lits_core.specs.Literals.{negation_of, variable_of}
use Rattle.lits_core.specs.Derivation.{State, has_lit, hints_fault}
use Rattle.clause_arena.specs.Records.{Record, record_at}
use Rattle.watch_arena.specs.Places.{place_at, is_false}
use Rattle.watch_arena.specs.Trails.{TrailState}
use Rattle.conflict_clause.specs.declared.analysis.Analysis.{Analysis}
use Rattle.conflict_clause.specs.Taught.{HoldsRecords, IsLiveId, level_in}

-- whether a variable was seen
abbrev pub is_seen : Analysis → ℕ → Bool
is_seen n variable = slice_index_or n.marks variable false

-- each variable that was seen is listed
pub record IsSeenList (n : Analysis) (variables : ℕ) : Type 0 where
  pub size : length n.marks ≡ variables
  pub listed : (variable : ℕ) → is_seen n variable ≡ true → Contains n.seen.items variable
  pub in_range : All (λ variable. variable < variables) n.seen.items

-- no variable is marked as seen
pub record IsClear (n : Analysis) (variables : ℕ) : Type 0 where
  pub size : length n.marks ≡ variables
  pub none : (variable : ℕ) → is_seen n variable ≡ false
  pub in_range : All (λ variable. variable < variables) n.seen.items

-- of the places whose variables were seen, all are from the lowest place on but those whose negations are kept; the level of the lowest is at least this
pub record IsLooking (t : TrailState) (level : ℕ) (n : Analysis) : Type 0 where
  pub seen_list : IsSeenList n t.variables
  pub left : (q : ℕ) → q < length t.places → is_seen n (variable_of (place_at t.places q).lit) ≡ true → Contains n.lits.items (negation_of (place_at t.places q).lit) ⊎ (n.lowest ≤ q)
  pub at_level : n.lowest < length t.places → level ≤ (place_at t.places n.lowest).level

-- a literal that is false by a lower level than this
pub record IsLower (t : TrailState) (level lit : ℕ) : Type 0 where
  pub off : IsTrue (is_false t.places lit)
  pub below : level_in t.places lit < level

-- more variables were seen, and the literals of lower levels among theirs are kept
pub record Sees (t : TrailState) (level : ℕ) (old new : Analysis) : Type 0 where
  pub marks : (variable : ℕ) → is_seen old variable ≡ true → is_seen new variable ≡ true
  pub kept : (lit : ℕ) → Contains old.lits.items lit → Contains new.lits.items lit
  pub added : (lit : ℕ) → Contains new.lits.items lit → Contains old.lits.items lit ⊎ IsLower t level lit
  pub lowest : new.lowest ≤ old.lowest

-- literals have the kept ones, and the negations of those at the places below p that were seen
pub record Covers (t : TrailState) (p : ℕ) (n : Analysis) (lits : List ℕ) : Type 0 where
  pub kept : (lit : ℕ) → Contains n.lits.items lit → has_lit lits lit ≡ true
  pub below : (q : ℕ) → q < p → is_seen n (variable_of (place_at t.places q).lit) ≡ true → has_lit lits (negation_of (place_at t.places q).lit) ≡ true

-- the places from p on were looked at: the hints so far, last one first, show each clause that covers what is below
pub record IsSearch (t : TrailState) (level p : ℕ) (n : Analysis) : Type 0 where
  pub looking : IsLooking t level n
  pub within : p ≤ length t.places
  pub shown : (state : State) (lits : List ℕ) → HoldsRecords state t.records → Covers t p n lits → hints_fault state (reverse n.hints.items) lits ≡ None
  pub of_live : (hint : ℕ) → Contains n.hints.items hint → IsLiveId t.records hint

-- a literal that is false by a place from p on that was assumed
pub record IsAssumedFrom (t : TrailState) (p lit : ℕ) : Type 0 where
  pub place : ℕ
  pub from_p : p ≤ place
  pub within : place < length t.places
  pub assumed : (place_at t.places place).reason ≡ None
  pub is : lit ≡ negation_of (place_at t.places place).lit

-- the literals that looking at the places from p on has added are false by lower levels than this or by assumed places
pub record Finds (t : TrailState) (level p : ℕ) (old new : Analysis) : Type 0 where
  pub added : (lit : ℕ) → Contains new.lits.items lit → Contains old.lits.items lit ⊎ IsLower t level lit ⊎ IsAssumedFrom t p lit
  pub lowest : new.lowest ≤ old.lowest

-- hints, the last one first, show each clause that has these literals
abbrev pub AreShown : List Record → List ℕ → List ℕ → Type 0
AreShown records lits hints = (state : State) (falses : List ℕ) → HoldsRecords state records → ((lit : ℕ) → Contains lits lit → has_lit falses lit ≡ true) → hints_fault state (reverse hints) falses ≡ None

-- the end of a search for a point, which is the lowest place, of the current level: the kept literals are of lower levels, and with the negation of the point's literal they are a clause that the hints show
pub record IsReached (t : TrailState) (n : Analysis) : Type 0 where
  pub within : n.lowest < length t.places
  pub at_the_level : (place_at t.places n.lowest).level ≡ t.level
  pub lower : (lit : ℕ) → Contains n.lits.items lit → IsLower t t.level lit
  pub shown : AreShown t.records (negation_of (place_at t.places n.lowest).lit ∷ n.lits.items) n.hints.items
  pub of_live : (hint : ℕ) → Contains n.hints.items hint → IsLiveId t.records hint

-- of the places below the lowest one, each whose variable was seen has the negation of its literal kept
abbrev pub KeepsBelow : TrailState → Analysis → Type 0
KeepsBelow t n = (q : ℕ) → q < n.lowest → is_seen n (variable_of (place_at t.places q).lit) ≡ true → Contains n.lits.items (negation_of (place_at t.places q).lit)

-- places by which literals are false: each place is that of one of them, and each of them has its place
pub record ArePlacesOf (t : TrailState) (lits places : List ℕ) : Type 0 where
  pub within : (q : ℕ) → Contains places q → q < length t.places
  pub of : (q : ℕ) → Contains places q → Contains lits (negation_of (place_at t.places q).lit)
  pub each : (lit : ℕ) → Contains lits lit → (q : ℕ) × Contains places q × ((place_at t.places q).lit ≡ negation_of lit)

-- the negation of a place's literal goes: the variables of its reason's literals were seen, and the reason's id is one hint more
pub record Goes (t : TrailState) (place : ℕ) (old new : Analysis) : Type 0 where
  pub at : ℕ
  pub reason : (place_at t.places place).reason ≡ Some at
  pub seen : (lit : ℕ) → Contains (record_at t.records at).lits lit → is_seen old (variable_of lit) ≡ true
  pub lits : new.lits.items ≡ old.lits.items
  pub hints : new.hints.items ≡ old.hints.items ++ (record_at t.records at).id ∷ []

-- the negation of a place's literal stays
pub record Stays (t : TrailState) (place : ℕ) (old new : Analysis) : Type 0 where
  pub lits : new.lits.items ≡ old.lits.items ++ negation_of (place_at t.places place).lit ∷ []
  pub hints : new.hints.items ≡ old.hints.items

-- literals are put behind a first one, in an order that begins with one of the highest level among them, which is told; 0 where there are none
pub record IsArranged (t : TrailState) (first : ℕ) (old new : List ℕ) (back : ℕ) : Type 0 where
  pub others : List ℕ
  pub split : new ≡ first ∷ others
  pub permuted : IsPermutation old others
  pub up_to : (lit : ℕ) → Contains others lit → level_in t.places lit ≤ back
  pub second : MatchOption (slice_get others 0) (back ≡ 0) (λ lit. level_in t.places lit ≡ back)
