-- Clauses that are the reason of no literal.
use Rattle.std.proofs.Common.{◌≡◌, ◌≢◌, ◌∙◌, ◌⊎◌, ℕ, zero, suc, ◌+◌, ◌-◌, ◌<◌, ◌≤◌, Bool, true, false, cond, List, [], ◌∷◌, map, length, get_or, take, drop, max, Option, Some, None, refl, sym, ap, subst, arith, inl, inr, add-one, drop-cons, length-drop}
use Rattle.std.specs.Prelude.{not, is_none, MatchOption}
use Rattle.std.specs.List.{Contains, All, AllPairs, list_all}
use Rattle.std.proofs.lemmas.List.{drop_all, length-map}
use Rattle.std.proofs.lemmas.List.Elements.{Contains-get_or}
use Rattle.std.proofs.lemmas.List.Kept.{AllPairs-cons}
use Rattle.std.proofs.lemmas.Bool.{cases_Bool, cases_lt, and_from}
use Rattle.lits_core.specs.Derivation.{derived_clause, given_clause, distinct_ids, has_distinct_ids}
use Rattle.clause_arena.specs.Records.{Record, record_at, no_record}
use Rattle.watch_arena.specs.declared.places.Place.{Place}
use Rattle.learn_solver.specs.States.{state_of, is_reason, gone_from, idle_from, idle_of}
use Rattle.learn_solver.specs.Learners.{AreRecords}
use Rattle.learn_solver.proofs.RecordState.{derived-none, derived-at, given-none, derived-id, ids-apart}

-- one record after another
pub gone-step : (stays : ℕ → Bool) (records : List Record) (at : ℕ) → at < length records → gone_from stays at (drop at records) ≡ cond (stays at) (gone_from stays (at + 1) (drop (at + 1) records)) ((record_at records at).id ∷ gone_from stays (at + 1) (drop (at + 1) records))
gone-step stays records at lt =
    let split : drop at records ≡ record_at records at ∷ drop (at + 1) records = rw (add-one, drop-cons records at no_record) in
    ap (gone_from stays at) split

idle-step : (places : List Place) (records : List Record) (at : ℕ) → at < length records → idle_from places at (drop at records) ≡ cond (is_reason places at) (idle_from places (at + 1) (drop (at + 1) records)) ((record_at records at).id ∷ idle_from places (at + 1) (drop (at + 1) records))
idle-step places records at lt = gone-step (is_reason places) records at lt

pub count-step : (places : List Place) (records : List Record) (at : ℕ) (b : Bool) → at < length records → b ≡ not (is_reason places at) → cond b 1 0 + length (idle_from places (at + 1) (drop (at + 1) records)) ≡ length (idle_from places at (drop at records))
count-step places records at b lt is =
    elim (cases_Bool (is_reason places at)) [
      | inl on ↦ let off : b ≡ false = is ∙ ap not on in rw (idle-step places records at lt, on, off) (omega arith)
      | inr off ↦ let on : b ≡ true = is ∙ ap not off in rw (idle-step places records at lt, off, on) (omega arith)
    ]

pub idle-none : (places : List Place) (records : List Record) (at : ℕ) → length records ≤ at → idle_from places at (drop at records) ≡ []
idle-none places records at le = ap (idle_from places at) (drop_all at records le)

pub idle_of-none : (places : List Place) (records : List Record) (given : ℕ) → length records ≤ given → idle_of places records given ≡ []
unfolding idle_of
idle_of-none places records given le = idle-none places records given le

pub idle_of-from : (places : List Place) (records : List Record) (given : ℕ) → idle_of places records given ≡ idle_from places given (drop given records)
unfolding idle_of
idle_of-from places records given = refl

-- no more records are idle than there are
idle-most : (places : List Place) (at : ℕ) (records : List Record) → length (idle_from places at records) ≤ length records
idle-most places at [] = omega arith
idle-most places at (r ∷ records) =
    let rest = idle-most places (at + 1) records in
    elim (cases_Bool (is_reason places at)) [
      | inl on ↦ rw on (omega arith)
      | inr off ↦ rw off (omega arith)
    ]

pub few_idle : (places : List Place) (records : List Record) (given : ℕ) → length (idle_of places records given) ≤ length records - given
unfolding idle_of
few_idle places records given = let most = idle-most places given (drop given records) in omega (arith, length-drop given records)

-- where the loop over the records stands
pub count-from : (places : List Place) (records : List Record) (given number count next : ℕ) (b : Bool) → number < length records → (number < given → b ≡ false) → (given ≤ number → b ≡ not (is_reason places number)) → next ≡ count + cond b 1 0 → count + length (idle_from places (max number given) (drop (max number given) records)) ≡ length (idle_of places records given) → next + length (idle_from places (max (number + 1) given) (drop (max (number + 1) given) records)) ≡ length (idle_of places records given)
count-from places records given number count next b lt early late is sofar =
    elim (cases_lt number given) [
      | inl below ↦
          let off = early below in
          let none : cond {A = ℕ} b 1 0 ≡ 0 = ap (λ (x : Bool). cond {A = ℕ} x 1 0) off in
          let same : max (number + 1) given ≡ max number given = omega arith in
          let counts : length (idle_from places (max (number + 1) given) (drop (max (number + 1) given) records)) ≡ length (idle_from places (max number given) (drop (max number given) records)) = ap (λ (n : ℕ). length (idle_from places n (drop n records))) same in
          omega arith
      | inr from ↦
          let here : max number given ≡ number = omega arith in
          let there : max (number + 1) given ≡ number + 1 = omega arith in
          let a : length (idle_from places (max number given) (drop (max number given) records)) ≡ length (idle_from places number (drop number records)) = ap (λ (n : ℕ). length (idle_from places n (drop n records))) here in
          let z : length (idle_from places (max (number + 1) given) (drop (max (number + 1) given) records)) ≡ length (idle_from places (number + 1) (drop (number + 1) records)) = ap (λ (n : ℕ). length (idle_from places n (drop n records))) there in
          let step = count-step places records number b lt (late from) in
          omega arith
    ]

-- an element is the first one or one of the rest
contains-first : (first id : ℕ) (ids : List ℕ) → Contains (first ∷ ids) id → (first ≡ id) ⊎ Contains ids id
contains-first first id ids (zero, lt, e) = inl e
contains-first first id ids (suc k, lt, e) = inr (k, omega arith, e)

-- the id of a record that goes is that of one of the records
pub gone-index : (stays : ℕ → Bool) (at : ℕ) (records : List Record) (id : ℕ) → Contains (gone_from stays at records) id → (k : ℕ) × (k < length records) × ((record_at records k).id ≡ id)
gone-index stays at [] id (k, lt, e) = absurd (omega arith)
gone-index stays at (r ∷ records) id has =
    elim (cases_Bool (stays at)) [
      | inl on ↦ let rest = gone-index stays (at + 1) records id (rw on at has) in let lt = rest.1 in (suc rest.0, omega arith, rest.2)
      | inr off ↦ elim (contains-first r.id id (gone_from stays (at + 1) records) (rw off at has)) [
        | inl here ↦ (0, omega arith, here)
        | inr there ↦ let rest = gone-index stays (at + 1) records id there in let lt = rest.1 in (suc rest.0, omega arith, rest.2)
      ]
    ]

pub idle-index : (places : List Place) (at : ℕ) (records : List Record) (id : ℕ) → Contains (idle_from places at records) id → (k : ℕ) × (k < length records) × ((record_at records k).id ≡ id)
idle-index places at records id has = gone-index (is_reason places) at records id has

-- what goes by one choice goes by another one that agrees
pub gone-same : (stays other : ℕ → Bool) (at : ℕ) (records : List Record) → ((k : ℕ) → k < length records → stays (at + k) ≡ other (at + k)) → gone_from stays at records ≡ gone_from other at records
gone-same stays other at [] same = refl
gone-same stays other at (r ∷ records) same =
    let here : stays at ≡ other at = ap stays (let e : at ≡ at + 0 = omega arith in e) ∙ same 0 (omega arith) ∙ ap other (let e : at + 0 ≡ at = omega arith in e) in
    let rest = gone-same stays other (at + 1) records (λ k lt.
    ap stays (let e : at + 1 + k ≡ at + suc k = omega arith in e) ∙ same (suc k) (omega arith) ∙ ap other (let e : at + suc k ≡ at + 1 + k = omega arith in e)) in
    rw (here, rest) refl

-- the ids of records differ
abbrev AreApart : List Record → Type 0
AreApart records = (a b : ℕ) → a < b → b < length records → (record_at records a).id ≢ (record_at records b).id

apart-rest : (r : Record) (records : List Record) → AreApart (r ∷ records) → AreApart records
apart-rest r records h a b lt within = h (suc a) (suc b) (omega arith) (omega arith)

-- so no idle id comes twice
idle-once : (places : List Place) (at : ℕ) (records : List Record) → AreApart records → AllPairs (λ a b. a ≢ b) (idle_from places at records)
idle-once places at [] h = λ i j d lt within. absurd (omega arith)
idle-once places at (r ∷ records) h =
    let rest = idle-once places (at + 1) records (apart-rest r records h) in
    elim (cases_Bool (is_reason places at)) [
      | inl on ↦ rw on rest
      | inr off ↦ rw off (AllPairs-cons (λ a b. a ≢ b) r.id (idle_from places (at + 1) records)
          (λ k d lt e.
          let found = idle-index places (at + 1) records (get_or (idle_from places (at + 1) records) k d) (Contains-get_or (idle_from places (at + 1) records) k d lt) in
          let within = found.1 in
          h 0 (suc found.0) (omega arith) (omega arith) (e ∙ sym found.2))
          rest)
    ]

-- no two derived clauses share an id
distinct-apart : (records : List Record) → AreApart records → distinct_ids (map (λ r. (r.id, r.lits)) records) ≡ true
distinct-apart [] h = refl
distinct-apart (r ∷ records) h =
    let none = derived-none records 0 r.id (λ at from within e. h 0 (suc at) (omega arith) (omega arith) (sym e)) in
    and_from (is_none (derived_clause (map (λ (q : Record). (q.id, q.lits)) records) r.id)) (distinct_ids (map (λ (q : Record). (q.id, q.lits)) records)) (ap is_none none) (distinct-apart records (apart-rest r records h))

-- nor one with a given clause
apart-given : (clauses : List (List ℕ)) (records : List Record) → ((k : ℕ) → k < length records → given_clause clauses (record_at records k).id ≡ None) → list_all {X = ℕ × List ℕ} (λ entry. is_none (given_clause clauses entry.0)) (map (λ r. (r.id, r.lits)) records) ≡ true
apart-given clauses [] h = refl
apart-given clauses (r ∷ records) h =
    and_from (is_none (given_clause clauses r.id)) (list_all (λ (entry : ℕ × List ℕ). is_none (given_clause clauses entry.0)) (map (λ (q : Record). (q.id, q.lits)) records)) (ap is_none (h 0 (omega arith))) (apart-given clauses records (λ k lt. h (suc k) (omega arith)))

-- the ids are at least 1
entries-from_one : (records : List Record) (k : ℕ) (d : ℕ × List ℕ) → ((k : ℕ) → k < length records → 1 ≤ (record_at records k).id) → k < length records → 1 ≤ (get_or (map (λ r. (r.id, r.lits)) records) k d).0
entries-from_one [] k d h lt = absurd (omega arith)
entries-from_one (r ∷ records) zero d h lt = h 0 lt
entries-from_one (r ∷ records) (suc k) d h lt = entries-from_one records k d (λ j below. h (suc j) (omega arith)) (omega arith)

-- records after the first ones
pub record-drop : (records : List Record) (n k : ℕ) → record_at (drop n records) k ≡ record_at records (n + k)
record-drop records zero k = ap (record_at records) (let e : k ≡ 0 + k = omega arith in e)
record-drop [] (suc n) k = refl
record-drop (r ∷ records) (suc n) k = record-drop records n k ∙ ap (record_at (r ∷ records)) (let e : suc (n + k) ≡ suc n + k = omega arith in e)

pub drop-within : (records : List Record) (n k : ℕ) → k < length (drop n records) → n + k < length records
drop-within records n k lt = omega (arith, length-drop n records)

dropped-apart : (records : List Record) (given : ℕ) → AreRecords records given → AreApart (drop given records)
dropped-apart records given r a b lt within =
    let inside = drop-within records given b within in
    rw (record-drop records given a, record-drop records given b) (ids-apart records given (given + a) (given + b) r (omega arith) inside)

-- what is so of a solver
pub distinct-state : (records : List Record) (given : ℕ) → AreRecords records given → has_distinct_ids (state_of records given) ≡ true
unfolding state_of
distinct-state records given r =
    and_from (list_all (λ (entry : ℕ × List ℕ). is_none (given_clause (map (λ (q : Record). q.lits) (take given records)) entry.0)) (map (λ (q : Record). (q.id, q.lits)) (drop given records))) (distinct_ids (map (λ (q : Record). (q.id, q.lits)) (drop given records)))
    (apart-given (map (λ (q : Record). q.lits) (take given records)) (drop given records) (λ k lt.
    let inside = drop-within records given k lt in
    let id = ap (λ (q : Record). q.id) (record-drop records given k) in
    let past = derived-id records given (given + k) r (omega arith) inside in
    given-none records given (record_at (drop given records) k).id (omega arith)))
    (distinct-apart (drop given records) (dropped-apart records given r))

pub state-from_one : (records : List Record) (given : ℕ) → AreRecords records given → All (λ entry. 1 ≤ entry.0) (state_of records given).derived
unfolding state_of
state-from_one records given r k d lt =
    entries-from_one (drop given records) k d
    (λ j below. let inside = drop-within records given j below in let id = ap (λ (q : Record). q.id) (record-drop records given j) in let pos = r.from_one (given + j) inside in omega arith)
    (omega (arith, length-map {B = ℕ × List ℕ} (drop given records) (λ q. (q.id, q.lits))))

pub idle-derived : (places : List Place) (records : List Record) (given id : ℕ) → AreRecords records given → Contains (idle_of places records given) id → MatchOption (derived_clause (state_of records given).derived id) ⊥ (λ c. Unit {0})
unfolding state_of idle_of
idle-derived places records given id r has =
    let found = idle-index places given (drop given records) id has in
    let inside = drop-within records given found.0 found.1 in
    let named : (record_at records (given + found.0)).id ≡ id = ap (λ (q : Record). q.id) (sym (record-drop records given found.0)) ∙ found.2 in
    let is = derived-at records given (given + found.0) (omega arith) inside (λ a from lt. ids-apart records given a (given + found.0) r lt inside) in
    let P : Option (List ℕ) → Type 0 = λ o. MatchOption o ⊥ (λ c. Unit {0}) in
    let here : P (Some (record_at records (given + found.0)).lits) = tt in
    subst (λ (i : ℕ). P (derived_clause (map (λ (q : Record). (q.id, q.lits)) (drop given records)) i)) named (subst P (sym is) here)

pub idle-distinct : (places : List Place) (records : List Record) (given : ℕ) → AreRecords records given → AllPairs (λ a b. a ≢ b) (idle_of places records given)
unfolding idle_of
idle-distinct places records given r = idle-once places given (drop given records) (dropped-apart records given r)
