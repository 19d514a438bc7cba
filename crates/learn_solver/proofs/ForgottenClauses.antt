-- Clauses that are forgotten, as records and as a state.
use Rattle.std.proofs.Common.{◌≡◌, ◌≢◌, ◌∙◌, ℕ, suc, ◌+◌, ◌<◌, Bool, true, false, cond, eqb, List, [], ◌∷◌, map, length, Option, Some, None, refl, sym, ap, arith, inl, inr, add-zero}
use Rattle.std.specs.Prelude.{◌==◌, filter, option_and_then}
use Rattle.std.specs.Option.{option_map_or}
use Rattle.std.specs.List.{Contains}
use Rattle.std.proofs.lemmas.Bool.{cases_Bool, false≢true, eq-eqb, ne_eqb, eqb-true}
use Rattle.lits_core.specs.Derivation.{without_id, without_ids, forget_fault}
use Rattle.clause_arena.specs.Records.{Record, record_at, unlinked, compacted, forgotten}
use Rattle.watch_arena.specs.declared.places.Place.{Place}
use Rattle.watch_arena.specs.Places.{places_with}
use Rattle.watch_arena.proofs.ByIndex.{or_cases, or_left, or_right}
use Rattle.learn_solver.specs.States.{is_reason, gone_from, idle_from}
use Rattle.learn_solver.proofs.Idle.{gone-index}

-- the records that are left of some: the first has this number
pub left_from : (ℕ → Bool) → ℕ → List Record → List Record
left_from stays at [] = []
left_from stays at (r ∷ records) = cond (stays at) (r ∷ left_from stays (at + 1) records) (left_from stays (at + 1) records)

-- the derived clause of a record
abbrev pub entry : Record → ℕ × List ℕ
entry r = (r.id, r.lits)

-- ids that differ from a record's pass it over
without-past : (r : Record) (entries : List (ℕ × List ℕ)) (ids : List ℕ) → ((id : ℕ) → Contains ids id → r.id ≢ id) → without_ids (entry r ∷ entries) ids ≡ entry r ∷ without_ids entries ids
without-past r entries [] ne = refl
without-past r entries (id ∷ ids) ne =
    let off : eqb r.id id ≡ false = ne_eqb r.id id (ne id (0, omega arith, refl)) in
    ap (λ (b : Bool). without_ids (cond b entries (entry r ∷ without_id entries id)) ids) off
    ∙ without-past r (without_id entries id) ids (λ i has. ne i (suc has.0, (let lt = has.1 in omega arith), has.2))

fault-past : (r : Record) (entries : List (ℕ × List ℕ)) (ids : List ℕ) → ((id : ℕ) → Contains ids id → r.id ≢ id) → forget_fault (entry r ∷ entries) ids ≡ forget_fault entries ids
fault-past r entries [] ne = refl
fault-past r entries (id ∷ ids) ne =
    let off : eqb r.id id ≡ false = ne_eqb r.id id (ne id (0, omega arith, refl)) in
    let rest = fault-past r (without_id entries id) ids (λ i has. ne i (suc has.0, (let lt = has.1 in omega arith), has.2)) in
    rw (off, rest) refl

-- the first of some ids is taken out
without-first : (r : Record) (entries : List (ℕ × List ℕ)) (ids : List ℕ) → without_ids (entry r ∷ entries) (r.id ∷ ids) ≡ without_ids entries ids
without-first r entries ids =
    ap (λ (b : Bool). without_ids (cond b entries (entry r ∷ without_id entries r.id)) ids) (eq-eqb r.id r.id refl)

fault-first : (r : Record) (entries : List (ℕ × List ℕ)) (ids : List ℕ) → forget_fault (entry r ∷ entries) (r.id ∷ ids) ≡ forget_fault entries ids
fault-first r entries ids =
    let on : eqb r.id r.id ≡ true = eq-eqb r.id r.id refl in
    rw on refl

-- ids ascend
abbrev pub Ascend : List Record → Type 0
Ascend records = (a b : ℕ) → a < b → b < length records → (record_at records a).id < (record_at records b).id

ascend-rest : (r : Record) (records : List Record) → Ascend (r ∷ records) → Ascend records
ascend-rest r records h a b lt within = h (suc a) (suc b) (omega arith) (omega arith)

-- the id of a record that goes is past that of a record before
gone-past : (stays : ℕ → Bool) (r : Record) (at : ℕ) (records : List Record) (id : ℕ) → Ascend (r ∷ records) → Contains (gone_from stays at records) id → r.id ≢ id
gone-past stays r at records id h has e =
    let found = gone-index stays at records id has in
    let lt = found.1 in
    let up = h 0 (suc found.0) (omega arith) (omega arith) in
    let is = found.2 in absurd (omega arith)

-- the derived clauses without those that go are those of the records that are left
pub without-gone : (stays : ℕ → Bool) (at : ℕ) (records : List Record) → Ascend records → without_ids (map entry records) (gone_from stays at records) ≡ map entry (left_from stays at records)
unfolding left_from
without-gone stays at [] h = refl
without-gone stays at (r ∷ records) h =
    let rest = without-gone stays (at + 1) records (ascend-rest r records h) in
    elim (cases_Bool (stays at)) [
      | inl on ↦
          let past = without-past r (map entry records) (gone_from stays (at + 1) records) (λ id has. gone-past stays r (at + 1) records id h has) in
          rw (on, past, rest) refl
      | inr off ↦
          let first = without-first r (map entry records) (gone_from stays (at + 1) records) in
          rw (off, first, rest) refl
    ]

-- and they may be forgotten
pub forget-gone : (stays : ℕ → Bool) (at : ℕ) (records : List Record) → Ascend records → forget_fault (map entry records) (gone_from stays at records) ≡ None
forget-gone stays at [] h = refl
forget-gone stays at (r ∷ records) h =
    let rest = forget-gone stays (at + 1) records (ascend-rest r records h) in
    elim (cases_Bool (stays at)) [
      | inl on ↦
          let past = fault-past r (map entry records) (gone_from stays (at + 1) records) (λ id has. gone-past stays r (at + 1) records id h has) in
          rw (on, past, rest) refl
      | inr off ↦
          let first = fault-first r (map entry records) (gone_from stays (at + 1) records) in
          rw (off, first, rest) refl
    ]

-- what a compaction leaves where clauses were forgotten
pub compacted-left : (stays : ℕ → Bool) (at : ℕ) (old new : List Record) → length new ≡ length old → ((k : ℕ) → k < length old → (record_at old k).live ≡ true) → ((k : ℕ) → k < length old → record_at new k ≡ cond (stays (at + k)) (record_at old k) (forgotten (record_at old k))) → compacted new ≡ map unlinked (left_from stays at old)
unfolding left_from
compacted-left stays at [] [] size live each = refl
compacted-left stays at [] (n ∷ new) size live each = absurd (omega arith)
compacted-left stays at (r ∷ old) [] size live each = absurd (omega arith)
compacted-left stays at (r ∷ old) (n ∷ new) size live each =
    let rest : compacted new ≡ map unlinked (left_from stays (at + 1) old) = compacted-left stays (at + 1) old new (omega arith) (λ k lt. live (suc k) (omega arith))
    (λ k lt. each (suc k) (omega arith) ∙ ap (λ (m : ℕ). cond (stays m) (record_at old k) (forgotten (record_at old k))) (let e : at + suc k ≡ at + 1 + k = omega arith in e)) in
    let here : n ≡ cond (stays at) r (forgotten r) = each 0 (omega arith) ∙ ap (λ (m : ℕ). cond (stays m) r (forgotten r)) (add-zero at) in
    elim (cases_Bool (stays at)) [
      | inl on ↦
          let same : n ≡ r = here ∙ ap (λ (b : Bool). cond b r (forgotten r)) on in
          let alive : n.live ≡ true = ap (λ (x : Record). x.live) same ∙ live 0 (omega arith) in
          ap (λ (b : Bool). map unlinked (cond b (n ∷ filter (λ x. x.live) new) (filter (λ x. x.live) new))) alive
          ∙ ap (λ (xs : List Record). unlinked n ∷ xs) rest
          ∙ ap (λ (x : Record). unlinked x ∷ map unlinked (left_from stays (at + 1) old)) same
          ∙ sym (ap (λ (b : Bool). map unlinked (cond b (r ∷ left_from stays (at + 1) old) (left_from stays (at + 1) old))) on)
      | inr off ↦
          let same : n ≡ forgotten r = here ∙ ap (λ (b : Bool). cond b r (forgotten r)) off in
          let dead : n.live ≡ false = ap (λ (x : Record). x.live) same in
          ap (λ (b : Bool). map unlinked (cond b (n ∷ filter (λ x. x.live) new) (filter (λ x. x.live) new))) dead
          ∙ rest
          ∙ sym (ap (λ (b : Bool). map unlinked (cond b (r ∷ left_from stays (at + 1) old) (left_from stays (at + 1) old))) off)
    ]

-- live records that stay are all left
pub compacted-kept : (old new : List Record) → length new ≡ length old → ((k : ℕ) → k < length old → (record_at old k).live ≡ true) → ((k : ℕ) → k < length old → record_at new k ≡ record_at old k) → compacted new ≡ map unlinked old
compacted-kept [] [] size live each = refl
compacted-kept [] (n ∷ new) size live each = absurd (omega arith)
compacted-kept (r ∷ old) [] size live each = absurd (omega arith)
compacted-kept (r ∷ old) (n ∷ new) size live each =
    let rest : compacted new ≡ map unlinked old = compacted-kept old new (omega arith) (λ k lt. live (suc k) (omega arith)) (λ k lt. each (suc k) (omega arith)) in
    let same : n ≡ r = each 0 (omega arith) in
    let alive : n.live ≡ true = ap (λ (x : Record). x.live) same ∙ live 0 (omega arith) in
    ap (λ (b : Bool). map unlinked (cond b (n ∷ filter (λ x. x.live) new) (filter (λ x. x.live) new))) alive
    ∙ ap (λ (xs : List Record). unlinked n ∷ xs) rest
    ∙ ap (λ (x : Record). unlinked x ∷ map unlinked old) same

-- links are no part of a clause
pub lits-unlinked : (records : List Record) → map (λ r. r.lits) (map unlinked records) ≡ map (λ r. r.lits) records
lits-unlinked [] = refl
lits-unlinked (r ∷ records) = ap (λ (ls : List (List ℕ)). r.lits ∷ ls) (lits-unlinked records)

pub entries-unlinked : (records : List Record) → map entry (map unlinked records) ≡ map entry records
entries-unlinked [] = refl
entries-unlinked (r ∷ records) = ap (λ (es : List (ℕ × List ℕ)). entry r ∷ es) (entries-unlinked records)

-- no record is idle where each is a reason
pub idle-nothing : (places : List Place) (at : ℕ) (records : List Record) → ((k : ℕ) → k < length records → is_reason places (at + k) ≡ true) → idle_from places at records ≡ []
idle-nothing places at [] all = refl
idle-nothing places at (r ∷ records) all =
    let on : is_reason places at ≡ true = ap (is_reason places) (sym (add-zero at)) ∙ all 0 (omega arith) in
    let rest = idle-nothing places (at + 1) records (λ k lt. ap (is_reason places) (let e : at + 1 + k ≡ at + suc k = omega arith in e) ∙ all (suc k) (omega arith)) in
    rw on rest

-- whether a reason is this record
abbrev pub names : ℕ → Option ℕ → Bool
names at reason = option_map_or (λ r. r == at) reason false

named-anew : (name : ℕ → Option ℕ) (at to : ℕ) (reason : Option ℕ) → name at ≡ Some to → names at reason ≡ true → names to (option_and_then name reason) ≡ true
named-anew name at to None goes h = h
named-anew name at to (Some r) goes h =
    let same : r ≡ at = eqb-true r at h in
    ap (names to) (ap name same ∙ goes) ∙ eq-eqb to to refl

-- a reason is one under its new name
pub reason-anew : (name : ℕ → Option ℕ) (places : List Place) (at to : ℕ) → name at ≡ Some to → is_reason places at ≡ true → is_reason (places_with name places) to ≡ true
reason-anew name [] at to goes h = h
reason-anew name (p ∷ places) at to goes h =
    elim (cases_Bool (names at p.reason)) [
      | inl here ↦ or_left (names to (option_and_then name p.reason)) (is_reason (places_with name places) to) (named-anew name at to p.reason goes here)
      | inr off ↦
          let rest : is_reason places at ≡ true = elim (or_cases (names at p.reason) (is_reason places at) h) [ inl on ↦ absurd (false≢true (sym off ∙ on)) | inr there ↦ there ] in
          let there = reason-anew name places at to goes rest in
          or_right (names to (option_and_then name p.reason)) (is_reason (places_with name places) to) there
    ]
