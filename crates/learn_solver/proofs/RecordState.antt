-- Records and the state that they stand for.
use Rattle.std.proofs.Common.{◌≡◌, ◌≢◌, ◌∙◌, ◌⊎◌, ℕ, zero, suc, ◌+◌, ◌-◌, ◌<◌, ◌≤◌, Bool, true, false, eqb, List, [], ◌∷◌, ◌++◌, map, length, get_or, take, drop, Option, Some, None, refl, sym, ap, subst, arith, inl, inr, length-take, length-drop}
use Rattle.std.specs.Prelude.{slice_get, MatchOption}
use Rattle.std.specs.List.{Contains}
use Rattle.std.proofs.lemmas.List.{take-append-le, drop-append-le, map-append, length-map, take_all, drop_all, length_push, get_or_append_left, get_or_push}
use Rattle.std.proofs.lemmas.List.Sorted.{IsPermutation-sym, Contains-permutation}
use Rattle.std.proofs.lemmas.Option.{slice_get_past}
use Rattle.std.proofs.lemmas.Bool.{cases_lt, eq-eqb, ne_eqb, true≢false}
use Rattle.lits_core.specs.Literals.{meets_all, is_negative, variable_of}
use Rattle.lits_core.specs.Derivation.{State, given_clause, derived_clause, live_clause, SameLits, DerivedFollow, next_state}
use Rattle.lits_core.specs.declared.Line.TheVariants.{Derive}
use Rattle.clause_arena.specs.Records.{Record, record_at, no_record, new_record}
use Rattle.watch_arena.specs.Trails.{SameRecords}
use Rattle.conflict_clause.specs.Taught.{HoldsRecords}
use Rattle.learn_solver.specs.States.{state_of}
use Rattle.learn_solver.specs.Learners.{AreRecords, AreUpTo, AreNoted}
use Rattle.learn_solver.proofs.SameStates.{SameState-records, DerivedFollow-same}

-- a live record is one of the list
pub live-within : (records : List Record) (at : ℕ) → (record_at records at).live ≡ true → at < length records
live-within [] at live = absurd (true≢false (sym live))
live-within (r ∷ records) zero live = omega arith
live-within (r ∷ records) (suc at) live = let rest = live-within records at live in omega arith

-- what is so of records is so of the same records
pub AreRecords-same : (one other : List Record) (given : ℕ) → AreRecords one given → SameRecords one other → AreRecords other given
AreRecords-same one other given r h =
    let count = h.count in
    let enough = r.enough in
    record {
      enough = omega arith;
      live = λ at lt. (h.each at).live ∙ r.live at (omega arith);
      numbered = λ at lt. (h.each at).id ∙ r.numbered at lt;
      ascending = λ a b lt within. let up = r.ascending a b lt (omega arith) in let ea = (h.each a).id in let eb = (h.each b).id in omega arith;
      from_one = λ at lt. let id = (h.each at).id in let pos = r.from_one at (omega arith) in omega arith;
      follow = DerivedFollow-same (state_of one given) (state_of other given) (SameState-records one other given h) r.follow;
    }

pub AreUpTo-same : (one other : List Record) (last : ℕ) → AreUpTo one last → SameRecords one other → AreUpTo other last
AreUpTo-same one other last up h at lt = let count = h.count in let id = (h.each at).id in let bound = up at (omega arith) in omega arith

-- no two records have one id
pub ids-apart : (records : List Record) (given a b : ℕ) → AreRecords records given → a < b → b < length records → (record_at records a).id ≢ (record_at records b).id
ids-apart records given a b r lt within e = let up = r.ascending a b lt within in absurd (omega arith)

pub AreNoted-same : (one other : List Record) (given : ℕ) (noted : List Bool) → AreNoted one given noted → SameRecords one other → AreNoted other given noted
AreNoted-same one other given noted n h at lit lt has positive =
    n at lit lt (Contains-permutation (record_at other at).lits (record_at one at).lits lit (IsPermutation-sym (record_at one at).lits (record_at other at).lits (h.each at).lits) has) positive

-- the given clause of a number
pub given-at : (records : List Record) (n at : ℕ) → at < n → at < length records → slice_get (map (λ r. r.lits) (take n records)) at ≡ Some (record_at records at).lits
given-at [] n at lt within = absurd (omega arith)
given-at (r ∷ records) zero at lt within = absurd (omega arith)
given-at (r ∷ records) (suc n) zero lt within = refl
given-at (r ∷ records) (suc n) (suc at) lt within = given-at records n at (omega arith) (omega arith)

-- the derived clause of an id that no earlier one has
pub derived-at : (records : List Record) (n at : ℕ) → n ≤ at → at < length records → ((a : ℕ) → n ≤ a → a < at → (record_at records a).id ≢ (record_at records at).id) → derived_clause (map (λ r. (r.id, r.lits)) (drop n records)) (record_at records at).id ≡ Some (record_at records at).lits
derived-at [] n at le within apart = absurd (omega arith)
derived-at (r ∷ records) zero zero le within apart = rw (eq-eqb r.id r.id refl) refl
derived-at (r ∷ records) zero (suc at) le within apart =
    let other : eqb r.id (record_at records at).id ≡ false = ne_eqb r.id (record_at records at).id (apart 0 (omega arith) (omega arith)) in
    rw other (derived-at records zero at (omega arith) (omega arith) (λ a from lt. apart (suc a) (omega arith) (omega arith)))
derived-at (r ∷ records) (suc n) zero le within apart = absurd (omega arith)
derived-at (r ∷ records) (suc n) (suc at) le within apart =
    derived-at records n at (omega arith) (omega arith) (λ a from lt. apart (suc a) (omega arith) (omega arith))

-- no derived clause has an id that no record has
pub derived-none : (records : List Record) (n id : ℕ) → ((at : ℕ) → n ≤ at → at < length records → (record_at records at).id ≢ id) → derived_clause (map (λ r. (r.id, r.lits)) (drop n records)) id ≡ None
derived-none [] zero id none = refl
derived-none [] (suc n) id none = refl
derived-none (r ∷ records) zero id none =
    let other : eqb r.id id ≡ false = ne_eqb r.id id (none 0 (omega arith) (omega arith)) in
    rw other (derived-none records zero id (λ at from lt. none (suc at) (omega arith) (omega arith)))
derived-none (r ∷ records) (suc n) id none = derived-none records n id (λ at from lt. none (suc at) (omega arith) (omega arith))

-- no given clause has an id past their number
pub given-none : (records : List Record) (n id : ℕ) → n < id → given_clause (map (λ r. r.lits) (take n records)) id ≡ None
given-none records n id lt =
    let some : eqb id 0 ≡ false = ne_eqb id 0 (omega arith) in
    let count : length (map (λ (r : Record). r.lits) (take n records)) ≤ id - 1 = simp (length-map, length-take) (omega arith) in
    rw some (slice_get_past (map (λ (r : Record). r.lits) (take n records)) (id - 1) count)

-- a derived record's id is past the number of the given ones
pub derived-id : (records : List Record) (given at : ℕ) → AreRecords records given → given ≤ at → at < length records → given < (record_at records at).id
derived-id records given at r le within =
    elim (cases_lt 0 given) [
      | inl some ↦
          let number = r.numbered (given - 1) (omega arith) in
          let up = r.ascending (given - 1) at (omega arith) within in omega arith
      | inr none ↦ let pos = r.from_one at within in omega arith
    ]

-- the live clause of a record's id
pub live-at : (records : List Record) (given at : ℕ) → AreRecords records given → at < length records → live_clause (state_of records given) (record_at records at).id ≡ Some (record_at records at).lits
unfolding state_of
live-at records given at r within =
    elim (cases_lt at given) [
      | inl lt ↦
          let number = r.numbered at lt in
          let some : eqb (record_at records at).id 0 ≡ false = ne_eqb (record_at records at).id 0 (omega arith) in
          let back : (record_at records at).id - 1 ≡ at = omega arith in
          let found : given_clause (map (λ (r : Record). r.lits) (take given records)) (record_at records at).id ≡ Some (record_at records at).lits = rw (some, back) (given-at records given at lt within) in
          rw found refl
      | inr ge ↦
          let none = given-none records given (record_at records at).id (derived-id records given at r ge within) in
          rw none (derived-at records given at ge within (λ a from lt. ids-apart records given a at r lt within))
    ]

-- the state has each record's clause under its id
pub HoldsRecords-state : (records : List Record) (given : ℕ) → AreRecords records given → HoldsRecords (state_of records given) records
HoldsRecords-state records given r = record {
  each = λ at live.
      let found = live-at records given at r (live-within records at live) in
      let P : Option (List ℕ) → Type 0 = λ o. MatchOption o ⊥ (λ c. SameLits c (record_at records at).lits) in
      let here : P (Some (record_at records at).lits) = λ lit. refl in
      subst P (sym found) here;
}

-- no live clause has an id that no record has
pub none-named : (records : List Record) (given id : ℕ) → AreRecords records given → ((at : ℕ) → at < length records → (record_at records at).id ≢ id) → live_clause (state_of records given) id ≡ None
unfolding state_of
none-named records given id r none =
    let derived = derived-none records given id (λ at from within. none at within) in
    elim (cases_lt given id) [
      | inl past ↦ rw (given-none records given id past) derived
      | inr among ↦ elim (cases_lt 0 id) [
        | inl some ↦
            let enough = r.enough in
            let number = r.numbered (id - 1) (omega arith) in
            absurd (none (id - 1) (omega arith) (omega arith))
        | inr zero_id ↦
            let z : eqb id 0 ≡ true = eq-eqb id 0 (omega arith) in
            rw z derived
      ]
    ]

-- nor one that the first record from it on does not have
pub none-from : (records : List Record) (given id low : ℕ) → AreRecords records given → ((at : ℕ) → at < low → (record_at records at).id < id) → ((at : ℕ) → low ≤ at → at < length records → id ≤ (record_at records at).id) → (low < length records → (record_at records low).id ≢ id) → live_clause (state_of records given) id ≡ None
none-from records given id low r before from ne =
    none-named records given id r (λ at within e. elim (cases_lt at low) [
      | inl early ↦ let less = before at early in absurd (omega arith)
      | inr late ↦ elim (cases_lt low at) [
        | inl past ↦ let up = r.ascending low at past within in let most = from low (omega arith) (omega arith) in absurd (omega arith)
        | inr here ↦ let same : low ≡ at = omega arith in absurd (ne (omega arith) (ap (λ (n : ℕ). (record_at records n).id) same ∙ e))
      ]
    ])

-- as one past all of them
pub fresh-free : (records : List Record) (given last id : ℕ) → AreRecords records given → AreUpTo records last → last < id → live_clause (state_of records given) id ≡ None
fresh-free records given last id r up lt = none-named records given id r (λ at within e. let bound = up at within in absurd (omega arith))

-- one record more
pub record-old : (records : List Record) (r : Record) (at : ℕ) → at < length records → record_at (records ++ r ∷ []) at ≡ record_at records at
record-old records r at lt = get_or_append_left records (r ∷ []) no_record at lt

pub record-new : (records : List Record) (r : Record) (at : ℕ) → length records ≡ at → record_at (records ++ r ∷ []) at ≡ r
record-new records r at e = get_or_push records r no_record at e

pub state-pushed : (records : List Record) (given id : ℕ) (lits hints : List ℕ) → given ≤ length records → state_of (records ++ new_record id lits ∷ []) given ≡ next_state (state_of records given) (Derive id lits hints)
unfolding state_of
state-pushed records given id lits hints le =
    rw (take-append-le given records (new_record id lits ∷ []) le, drop-append-le given records (new_record id lits ∷ []) le, map-append {B = ℕ × List ℕ} (λ r. (r.id, r.lits)) (drop given records) (new_record id lits ∷ [])) refl

-- one record more, with an id past all others; it may be one more given clause
pub AreRecords-more : (records : List Record) (given more last id : ℕ) (lits : List ℕ) → AreRecords records given → AreUpTo records last → last < id → (more ≡ given) ⊎ ((more ≡ length records + 1) × (length records ≡ given) × (id ≡ length records + 1)) → DerivedFollow (state_of (records ++ new_record id lits ∷ []) more) → AreRecords (records ++ new_record id lits ∷ []) more
AreRecords-more records given more last id lits r up fresh kind follow =
    let count : length (records ++ new_record id lits ∷ []) ≡ length records + 1 = length_push records (new_record id lits) in
    let old : (at : ℕ) → at < length records → record_at (records ++ new_record id lits ∷ []) at ≡ record_at records at = λ at lt. record-old records (new_record id lits) at lt in
    let new : (at : ℕ) → length records ≡ at → record_at (records ++ new_record id lits ∷ []) at ≡ new_record id lits = λ at e. record-new records (new_record id lits) at e in
    let old_id : (at : ℕ) → at < length records → (record_at (records ++ new_record id lits ∷ []) at).id ≡ (record_at records at).id = λ at lt. ap (λ (q : Record). q.id) (old at lt) in
    let new_id : (at : ℕ) → length records ≡ at → (record_at (records ++ new_record id lits ∷ []) at).id ≡ id = λ at e. ap (λ (q : Record). q.id) (new at e) in
    let enough = r.enough in
    record {
      enough = elim kind [ inl e ↦ omega arith | inr k ↦ let e = k.0 in omega arith ];
      live = λ at lt. elim (cases_lt at (length records)) [
        | inl early ↦ ap (λ (q : Record). q.live) (old at early) ∙ r.live at early
        | inr late ↦ ap (λ (q : Record). q.live) (new at (omega arith))
      ];
      numbered = λ at lt. elim kind [
        | inl e ↦ let id_is = old_id at (omega arith) in let n = r.numbered at (omega arith) in omega arith
        | inr k ↦ let e = k.0 in let all = k.1 in let named = k.2 in elim (cases_lt at given) [
          | inl early ↦ let id_is = old_id at (omega arith) in let n = r.numbered at early in omega arith
          | inr late ↦ let id_is = new_id at (omega arith) in omega arith
        ]
      ];
      ascending = λ a b lt within. elim (cases_lt b (length records)) [
        | inl early ↦ let rise = r.ascending a b lt early in let ea = old_id a (omega arith) in let eb = old_id b early in omega arith
        | inr late ↦ let bound = up a (omega arith) in let ea = old_id a (omega arith) in let eb = new_id b (omega arith) in omega arith
      ];
      from_one = λ at lt. elim (cases_lt at (length records)) [
        | inl early ↦ let e = old_id at early in let pos = r.from_one at early in omega arith
        | inr late ↦ let e = new_id at (omega arith) in omega arith
      ];
      follow = follow;
    }

pub AreUpTo-more : (records : List Record) (last more id : ℕ) (lits : List ℕ) → AreUpTo records last → last ≤ more → id ≤ more → AreUpTo (records ++ new_record id lits ∷ []) more
AreUpTo-more records last more id lits up le here at lt =
    let count : length (records ++ new_record id lits ∷ []) ≡ length records + 1 = length_push records (new_record id lits) in
    elim (cases_lt at (length records)) [
      | inl early ↦ let bound = up at early in let e = ap (λ (q : Record). q.id) (record-old records (new_record id lits) at early) in omega arith
      | inr late ↦ let e = ap (λ (q : Record). q.id) (record-new records (new_record id lits) at (omega arith)) in omega arith
    ]

-- one more derived clause, which follows
pub AreRecords-pushed : (records : List Record) (given last id : ℕ) (lits : List ℕ) → AreRecords records given → AreUpTo records last → last < id → DerivedFollow (state_of (records ++ new_record id lits ∷ []) given) → AreRecords (records ++ new_record id lits ∷ []) given
AreRecords-pushed records given last id lits r up fresh follow = AreRecords-more records given given last id lits r up fresh (inl refl) follow

-- where nothing is derived, all records are given clauses
pub given-all : (records : List Record) (given : ℕ) → (state_of records given).derived ≡ [] → length records ≤ given
unfolding state_of
given-all records given none =
    let size : length (map {B = ℕ × List ℕ} (λ r. (r.id, r.lits)) (drop given records)) ≡ 0 = ap length none in
    let count : length (map {B = ℕ × List ℕ} (λ r. (r.id, r.lits)) (drop given records)) ≡ length records - given = simp (length-map, length-drop) in
    omega arith

-- then the state has no derived clauses
pub derived-nothing : (records : List Record) (given : ℕ) → length records ≤ given → (state_of records given).derived ≡ []
unfolding state_of
derived-nothing records given le = ap (map {B = ℕ × List ℕ} (λ r. (r.id, r.lits))) (drop_all given records le)

follow-nothing : (state : State) → state.derived ≡ [] → DerivedFollow state
follow-nothing state none bits h = ap (λ (entries : List (ℕ × List ℕ)). meets_all bits (map (λ entry. entry.1) entries)) none

-- one more given clause
pub state-given : (records : List Record) (given id : ℕ) (lits : List ℕ) → length records ≡ given → state_of (records ++ new_record id lits ∷ []) (given + 1) ≡ record { given = (state_of records given).given ++ lits ∷ []; derived = (state_of records given).derived }
unfolding state_of
state-given records given id lits all =
    let size : length (records ++ new_record id lits ∷ []) ≡ length records + 1 = length_push records (new_record id lits) in
    let whole : take (given + 1) (records ++ new_record id lits ∷ []) ≡ records ++ new_record id lits ∷ [] = take_all (given + 1) (records ++ new_record id lits ∷ []) (omega arith) in
    let front : take given records ≡ records = take_all given records (omega arith) in
    let none : drop (given + 1) (records ++ new_record id lits ∷ []) ≡ [] = drop_all (given + 1) (records ++ new_record id lits ∷ []) (omega arith) in
    let nothing : drop given records ≡ [] = drop_all given records (omega arith) in
    rw (whole, front, none, nothing, map-append {B = List ℕ} (λ r. r.lits) records (new_record id lits ∷ [])) refl

-- given clauses alone have no id past their number
given-last : (records : List Record) (given : ℕ) → AreRecords records given → length records ≡ given → AreUpTo records (length records)
given-last records given r all at lt = let n = r.numbered at (omega arith) in omega arith

pub AreRecords-given : (records : List Record) (given id : ℕ) (lits : List ℕ) → AreRecords records given → length records ≡ given → id ≡ length records + 1 → AreRecords (records ++ new_record id lits ∷ []) (given + 1)
AreRecords-given records given id lits r all fresh =
    let size : length (records ++ new_record id lits ∷ []) ≡ length records + 1 = length_push records (new_record id lits) in
    AreRecords-more records given (given + 1) (length records) id lits r (given-last records given r all) (omega arith) (inr (omega arith, all, fresh))
    (follow-nothing (state_of (records ++ new_record id lits ∷ []) (given + 1)) (derived-nothing (records ++ new_record id lits ∷ []) (given + 1) (omega arith)))

pub AreNoted-pushed : (records : List Record) (r : Record) (given : ℕ) (noted : List Bool) → given ≤ length records → AreNoted records given noted → AreNoted (records ++ r ∷ []) given noted
AreNoted-pushed records r given noted le n at lit lt has positive =
    n at lit lt (subst (λ (q : Record). Contains q.lits lit) (record-old records r at (omega arith)) has) positive

-- the variables of one more given clause are noted too
pub AreNoted-given : (records : List Record) (given id : ℕ) (lits : List ℕ) (old new : List Bool) → AreNoted records given old → length records ≡ given → ((v : ℕ) → get_or old v false ≡ true → get_or new v false ≡ true) → ((lit : ℕ) → Contains lits lit → is_negative lit ≡ false → get_or new (variable_of lit) false ≡ true) → AreNoted (records ++ new_record id lits ∷ []) (given + 1) new
AreNoted-given records given id lits old new n all kept noted at lit lt has positive =
    elim (cases_lt at given) [
      | inl early ↦ kept (variable_of lit) (AreNoted-pushed records (new_record id lits) given old (omega arith) n at lit early has positive)
      | inr late ↦ noted lit (subst (λ (q : Record). Contains q.lits lit) (record-new records (new_record id lits) at (omega arith)) has) positive
    ]
