-- How a trail is kept, by the parts of its invariant. A mark of a literal is the number of its place and one more, or 0 where it is not true.
use Rattle.std.specs.Prelude.{◌≡◌, ◌≢◌, ◌⊎◌, ℕ, ◌+◌, ◌-◌, ◌*◌, ◌^◌, ◌<◌, ◌≤◌, true, false, List, [], ◌∷◌, ◌++◌, length, take, slice_index, slice_set, Option, Some, Contains}
use Rattle.lits_core.specs.Literals.{negation_of}
use Rattle.clause_arena.specs.declared.place.Link.{Link}
use Rattle.clause_arena.specs.Records.{Record, record_at}
use Rattle.watch_arena.specs.declared.places.Place.{Place}
use Rattle.watch_arena.specs.declared.engine.Engine.{Engine}
use Rattle.watch_arena.specs.declared.engine.Visit.{Visit}
use Rattle.watch_arena.specs.declared.engine.Visit.TheVariants.{Behind, False}
use Rattle.watch_arena.specs.Chains.{head_of, next_of, linked, exchanged, records_past, chains_past, led, IsChain, Has, AreChains, IsNone}
use Rattle.watch_arena.specs.Places.{place_at, is_assumed, level_of}
use Rattle.watch_arena.specs.Trails.{TrailState, SameRecords, places_up_to}

-- the mark of a literal
abbrev pub mark_of : List ℕ → ℕ → ℕ
mark_of marks lit = slice_index marks lit

-- a literal is true by one of the first n places
abbrev pub TrueBelow : List ℕ → ℕ → ℕ → Type 0
TrueBelow marks n lit = (0 < mark_of marks lit) × (mark_of marks lit ≤ n)

-- a literal is false by one of the first n places
abbrev pub FalseBelow : List ℕ → ℕ → ℕ → Type 0
FalseBelow marks n lit = TrueBelow marks n (negation_of lit)

-- the marks are those of the places, and no literal is true beside its negation
pub record AreMarked (marks : List ℕ) (places : List Place) (variables : ℕ) : Type 0 where
  pub size : length marks ≡ 2 * variables
  pub back : (p : ℕ) → p < length places → mark_of marks (place_at places p).lit ≡ p + 1
  pub forth : (lit : ℕ) → 0 < mark_of marks lit → (mark_of marks lit ≤ length places) × ((place_at places (mark_of marks lit - 1)).lit ≡ lit)
  pub apart : (lit : ℕ) → 0 < mark_of marks lit → mark_of marks (negation_of lit) ≡ 0

-- a live record is the reason of a literal: it has the literal, and its others are false by the first n places
pub record IsReasonBelow (r : Record) (marks : List ℕ) (n lit : ℕ) : Type 0 where
  pub live : r.live ≡ true
  pub has : Contains r.lits lit
  pub others : (m : ℕ) → Contains r.lits m → m ≢ lit → FalseBelow marks n m

-- each place's reason is one
abbrev pub AreReasoned : List Record → List ℕ → List Place → Type 0
AreReasoned records marks places =
    (p at : ℕ) → p < length places → (place_at places p).reason ≡ Some at → IsReasonBelow (record_at records at) marks p (place_at places p).lit

-- a clause's first two literals, in either order, which differ
pub record IsWatched (lits : List ℕ) (a b : ℕ) : Type 0 where
  pub differ : a ≢ b
  pub two : 2 ≤ length lits
  pub either : ((slice_index lits 0 ≡ a) × (slice_index lits 1 ≡ b)) ⊎ ((slice_index lits 0 ≡ b) × (slice_index lits 1 ≡ a))

-- a clause with no two different literals
abbrev pub IsShort : List ℕ → Type 0
IsShort lits = (k : ℕ) → k < length lits → slice_index lits k ≡ slice_index lits 0

-- each live clause is short, or its first two literals differ
abbrev pub AreShortOrWatched : List Record → Type 0
AreShortOrWatched records =
    (at : ℕ) → (record_at records at).live ≡ true → IsShort (record_at records at).lits ⊎ IsWatched (record_at records at).lits (slice_index (record_at records at).lits 0) (slice_index (record_at records at).lits 1)

-- where a watched literal is false by one of the first h places, the other one is true by one of the first n
abbrev pub AreSettled : List Record → List ℕ → ℕ → ℕ → Type 0
AreSettled records marks h n =
    (at a b : ℕ) → (record_at records at).live ≡ true → IsWatched (record_at records at).lits a b → FalseBelow marks h a → TrueBelow marks n b

-- a short clause stands in a list; where it stands among the first s there, its literal is true by one of the first n places
pub record IsShortSettled (lits : List ℕ) (at : ℕ) (shorts : List ℕ) (marks : List ℕ) (s n : ℕ) : Type 0 where
  pub index : ℕ
  pub within : index < length shorts
  pub found : slice_index shorts index ≡ at
  pub settled : index < s → (0 < length lits) × TrueBelow marks n (slice_index lits 0)

-- so for each live short clause
pub record AreShortsSettled (records : List Record) (shorts : List ℕ) (marks : List ℕ) (s n : ℕ) : Type 0 where
  pub within : s ≤ length shorts
  pub each : (at : ℕ) → (record_at records at).live ≡ true → IsShort (record_at records at).lits → IsShortSettled (record_at records at).lits at shorts marks s n

-- how far propagation has come, with n places
pub record IsSettledAt (records : List Record) (shorts : List ℕ) (marks : List ℕ) (h s n : ℕ) : Type 0 where
  pub within : h ≤ n
  pub watched : AreSettled records marks h n
  pub alone : AreShortsSettled records shorts marks s n

-- each place has the level to which the places up to it have come
abbrev pub AreLevelled : List Place → Type 0
AreLevelled places = (p : ℕ) → p < length places → (place_at places p).level ≡ level_of (take (p + 1) places)

-- each literal of each record is of the first variables
abbrev pub RecordsInRange : List Record → ℕ → Type 0
RecordsInRange records variables = (at lit : ℕ) → Contains (record_at records at).lits lit → lit < 2 * variables

-- what is so of an engine between two calls
pub record IsEngine (e : Engine) : Type 0 where
  pub few : e.variables < 2 ^ 32
  pub no_pairs : e.moves.pairs ≡ []
  pub room : e.variables ≤ e.places.room
  pub lists : length e.chains ≡ 2 * e.variables
  pub heads : length e.heads ≡ e.variables
  pub firsts : length e.firsts ≡ e.variables
  pub marked : AreMarked e.marks e.places.list e.variables
  pub in_range : RecordsInRange e.arena e.variables
  pub reasoned : AreReasoned e.arena e.marks e.places.list
  pub kinds : AreShortOrWatched e.arena
  pub filed : AreChains e.arena e.chains IsNone
  pub levelled : AreLevelled e.places.list
  pub now : IsSettledAt e.arena e.shorts e.marks e.queue_head e.first (length e.places.list)
  pub saved : (p : ℕ) → p < length e.places.list → IsSettledAt e.arena e.shorts e.marks (slice_index e.heads p) (slice_index e.firsts p) p

-- one more place, and how far propagation had come before it
abbrev pub with_place : Engine → Place → Engine
with_place e p = record e {
  marks = slice_set e.marks p.lit (length e.places.list + 1);
  heads = slice_set e.heads (length e.places.list) e.queue_head;
  firsts = slice_set e.firsts (length e.places.list) e.first;
  places = record e.places { list = e.places.list ++ p ∷ [] };
}

-- the watch of a clause on one literal leaves that literal's chain, where it came behind another entry or first, for the chain of the literal at place k of the clause
abbrev pub with_watch_moved : Engine → ℕ → Option Link → Link → ℕ → Engine
with_watch_moved e lit prev x k = record e {
  arena = linked (exchanged (records_past e.arena prev (next_of e.arena x)) x.at x.slot k) x (head_of (chains_past e.chains lit prev (next_of e.arena x)) (slice_index (record_at e.arena x.at).lits k));
  chains = slice_set (chains_past e.chains lit prev (next_of e.arena x)) (slice_index (record_at e.arena x.at).lits k) (Some x);
}

-- the last place goes, and propagation has come only as far as before it
abbrev pub without_last : Engine → Engine
without_last e = record e {
  marks = slice_set e.marks (place_at e.places.list (length e.places.list - 1)).lit 0;
  queue_head = slice_index e.heads (length e.places.list - 1);
  first = slice_index e.firsts (length e.places.list - 1);
  places = record e.places { list = take (length e.places.list - 1) e.places.list };
}

-- a literal may become true: it is unassigned, the level is the one that the places come to with it, and its reason, if it has one, is a reason
pub record CanAssign (e : Engine) (p : Place) : Type 0 where
  pub range : p.lit < 2 * e.variables
  pub not_true : mark_of e.marks p.lit ≡ 0
  pub not_false : mark_of e.marks (negation_of p.lit) ≡ 0
  pub level : p.level ≡ level_of (e.places.list ++ p ∷ [])
  pub reason : (at : ℕ) → p.reason ≡ Some at → IsReasonBelow (record_at e.arena at) e.marks (length e.places.list) p.lit

-- where a clause watches a literal, the other literal that it watches is true
abbrev pub IsAgreed : Engine → ℕ → ℕ → Type 0
IsAgreed e lit at =
    (other : ℕ) → (record_at e.arena at).live ≡ true → IsWatched (record_at e.arena at).lits lit other → TrueBelow e.marks (length e.places.list) other

-- so for all clauses
abbrev pub AllAgree : Engine → ℕ → Type 0
AllAgree e lit = (at : ℕ) → IsAgreed e lit at

-- a walk along a literal's chain has come behind one entry and before another: what it passed agrees
pub record IsWalking (e : Engine) (lit : ℕ) (prev cur : Option Link) : Type 0 where
  pub before : List Link
  pub rest : List Link
  pub chain : IsChain e.arena (head_of e.chains lit) (led prev before ++ rest)
  pub ahead : IsChain e.arena cur rest
  pub agreed : (x : Link) → Has (led prev before) x → IsAgreed e lit x.at

-- the chain behind an entry stays
abbrev pub StaysAhead : Engine → Engine → Link → Type 0
StaysAhead old new x = (rest : List Link) → IsChain old.arena (next_of old.arena x) rest → IsChain new.arena (next_of old.arena x) rest

-- a short clause, if it is live and one, has a true literal
abbrev pub IsShortMet : Engine → ℕ → Type 0
IsShortMet e at =
    (record_at e.arena at).live ≡ true → IsShort (record_at e.arena at).lits → (0 < length (record_at e.arena at).lits) × TrueBelow e.marks (length e.places.list) (slice_index (record_at e.arena at).lits 0)

-- propagation may have gone on: the records, the places that were there and the list of short clauses stay, and each new place is implied
pub record ImpliesMore (old new : Engine) : Type 0 where
  pub records : SameRecords old.arena new.arena
  pub places : take (length old.places.list) new.places.list ≡ old.places.list
  pub implied : (p : ℕ) → length old.places.list ≤ p → p < length new.places.list → is_assumed (place_at new.places.list p) ≡ false
  pub marks : (lit : ℕ) → 0 < mark_of old.marks lit → mark_of new.marks lit ≡ mark_of old.marks lit
  pub variables : new.variables ≡ old.variables
  pub shorts : new.shorts ≡ old.shorts

-- a live clause all of whose literals are false, by their marks
pub record IsFalse (e : Engine) (at : ℕ) : Type 0 where
  pub live : (record_at e.arena at).live ≡ true
  pub all_false : (lit : ℕ) → Contains (record_at e.arena at).lits lit → 0 < mark_of e.marks (negation_of lit)

-- visits of clauses that watch a literal
pub record Visits (old new : Engine) (lit : ℕ) : Type 0 where
  pub sound : IsEngine new
  pub implies : ImpliesMore old new
  pub queue_head : new.queue_head ≡ old.queue_head
  pub first : new.first ≡ old.first
  pub agreed : (at : ℕ) → IsAgreed old lit at → IsAgreed new lit at

-- what came of a visit of an entry of a literal's chain: the walk goes on with what came behind it, or a clause is false
abbrev pub Outcome : Engine → Engine → ℕ → Link → Visit → Type 0
Outcome old new lit x (Behind p) = IsWalking new lit p (next_of old.arena x)
Outcome old new lit x (False at) = IsFalse new at

-- a literal of a clause, past the watched ones, that is not false and another one than this
pub record IsFresh (e : Engine) (at other k : ℕ) : Type 0 where
  pub third : 2 ≤ k
  pub within : k < length (record_at e.arena at).lits
  pub differs : slice_index (record_at e.arena at).lits k ≢ other
  pub not_false : mark_of e.marks (negation_of (slice_index (record_at e.arena at).lits k)) ≡ 0

-- there is none
abbrev pub HasNoFresh : Engine → ℕ → ℕ → ℕ → Type 0
HasNoFresh e at other n =
    (k : ℕ) → 2 ≤ k → k < n → slice_index (record_at e.arena at).lits k ≢ other → 0 < mark_of e.marks (negation_of (slice_index (record_at e.arena at).lits k))

-- propagation goes on
pub record Advances (old new : Engine) : Type 0 where
  pub sound : IsEngine new
  pub implies : ImpliesMore old new
  pub first : new.first ≡ old.first

-- propagation has come to the end
pub record IsDone (e : Engine) : Type 0 where
  pub queue_head : e.queue_head ≡ length e.places.list
  pub first : e.first ≡ length e.shorts

-- a literal is not false by one of the first n places
abbrev pub IsUnseen : List ℕ → ℕ → ℕ → Type 0
IsUnseen marks n lit = 0 < mark_of marks (negation_of lit) → n < mark_of marks (negation_of lit)

-- propagation went back: it had come no further than to q, now and before each place
pub record IsRewound (e : Engine) (q : ℕ) : Type 0 where
  pub queue_head : e.queue_head ≤ q
  pub heads : (p : ℕ) → p < length e.places.list → slice_index e.heads p ≤ q

-- the places above a level are gone, and nothing else of what is seen has changed
pub record Undoes (old new : Engine) (level : ℕ) : Type 0 where
  pub arena : new.arena ≡ old.arena
  pub variables : new.variables ≡ old.variables
  pub places : new.places.list ≡ places_up_to old.places.list level
  pub level_is : level_of new.places.list ≡ level
  pub moves : new.moves ≡ old.moves

-- the places, the number of variables and the room to compact stay
pub record KeepsTrail (old new : Engine) : Type 0 where
  pub places : new.places.list ≡ old.places.list
  pub variables : new.variables ≡ old.variables
  pub moves : new.moves ≡ old.moves

-- there is nothing yet
pub record IsEmpty (e : Engine) (variables : ℕ) : Type 0 where
  pub arena : e.arena ≡ []
  pub places : e.places.list ≡ []
  pub variables_are : e.variables ≡ variables
  pub spare : e.moves.spare ≡ 0

-- the public part, which a trail is seen as
abbrev pub trail_state : Engine → TrailState
trail_state e = record { records = e.arena; places = e.places.list; variables = e.variables; level = level_of e.places.list; spare = e.moves.spare }
