-- Idle clauses are forgotten, and the records move up.
use Rattle.std.proofs.Common.{◌≡◌, ◌≢◌, ◌∙◌, ◌⊎◌, ℕ, zero, suc, ◌+◌, ◌-◌, ◌<◌, ◌≤◌, Bool, true, false, cond, List, [], ◌∷◌, ◌++◌, map, length, take, drop, Option, Some, None, set, get_or, nat_lt, refl, sym, ap, subst, arith, inl, inr, append_assoc, length-take, length-drop, length-set, get_or-set_same, get_or-set_other, lt-ltb, le-ltb}
use Rattle.std.specs.Prelude.{filter}
use Rattle.std.specs.List.{Contains, count_by}
use Rattle.std.proofs.lemmas.Bool.{cases_Bool, cases_lt, true≢false, false≢true, eq-eqb}
use Rattle.std.proofs.lemmas.List.{get_or_default, get_or_append_left, get_or_push, length-map, map-append, take-append-drop, take-take, get_or-take, take-append-le, drop-append-le, take_all, drop_all}
use Rattle.std.proofs.lemmas.List.Elements.{filter-append}
use Rattle.std.proofs.lemmas.List.Sums.{count_by_more_yes, sum_by-take-le}
use Rattle.lits_core.specs.Derivation.{State, DerivedFollow, next_state, line_fault}
use Rattle.lits_core.specs.declared.Line.TheVariants.{Forget}
use Rattle.lits_core.proofs.DerivationLemmas.{DerivedFollow-next}
use Rattle.clause_arena.specs.Records.{Record, record_at, no_record, unlinked, compacted, forgotten}
use Rattle.clause_arena.specs.Movings.{place_after}
use Rattle.clause_arena.proofs.PackInvariant.{record_at-compacted}
use Rattle.watch_arena.specs.declared.places.Place.{Place}
use Rattle.watch_arena.specs.Places.{places_with}
use Rattle.watch_arena.specs.Trails.{TrailState, IsNoReason, SameRecords}
use Rattle.watch_arena.proofs.ByIndex.{or_false}
use Rattle.watch_arena.proofs.CompactedClauses.{CameFrom, came, place-live}
use Rattle.learn_solver.specs.States.{state_of, is_reason, gone_from, idle_from, idle_of}
use Rattle.learn_solver.specs.Learners.{AreRecords, AreUpTo, AreNoted, Forgets, AreKept, stays_by}
use Rattle.learn_solver.proofs.Idle.{gone-index, gone-step, record-drop, drop-within}
use Rattle.learn_solver.proofs.ForgottenClauses.{left_from, entry, names, Ascend, without-gone, forget-gone, compacted-left, compacted-kept, lits-unlinked, entries-unlinked, idle-nothing, reason-anew}

-- two lists of records, the one with the clauses forgotten that don't stay
pub record AreForgotten (stays : ℕ → Bool) (old new : List Record) (given : ℕ) : Type 0 where
  pub count : length new ≡ length old
  pub kept : (at : ℕ) → at < given ⊎ (stays at ≡ true) → record_at new at ≡ record_at old at
  pub gone : (at : ℕ) → given ≤ at → at < length old → stays at ≡ false → record_at new at ≡ forgotten (record_at old at)

pub AreForgotten-from : (old new : TrailState) (given : ℕ) (stays : ℕ → Bool) → Forgets old new given stays → AreForgotten stays old.records new.records given
AreForgotten-from old new given stays f = record { count = f.count; kept = f.kept; gone = f.gone }

-- in one word
forgotten-at : (stays : ℕ → Bool) (old new : List Record) (given at : ℕ) → AreForgotten stays old new given → given ≤ at → at < length old → record_at new at ≡ cond (stays at) (record_at old at) (forgotten (record_at old at))
forgotten-at stays old new given at f from lt =
    elim (cases_Bool (stays at)) [
      | inl on ↦ f.kept at (inr on) ∙ sym (ap (λ (b : Bool). cond b (record_at old at) (forgotten (record_at old at))) on)
      | inr off ↦ f.gone at from lt off ∙ sym (ap (λ (b : Bool). cond b (record_at old at) (forgotten (record_at old at))) off)
    ]

-- the records that a compaction leaves then
pub left : (stays : ℕ → Bool) (old new : List Record) (given : ℕ) → AreRecords old given → AreForgotten stays old new given → compacted new ≡ map unlinked (take given old ++ left_from stays given (drop given old))
left stays old new given r f =
    let enough = r.enough in
    let count = f.count in
    let split : take given new ++ drop given new ≡ new = take-append-drop given new in
    let sizes : length (take given new) ≡ length (take given old) = simp length-take (omega arith) in
    let size_drop : length (drop given new) ≡ length (drop given old) = simp length-drop (omega arith) in
    let size_take : length (take given old) ≡ given = simp length-take (omega arith) in
    let front : compacted (take given new) ≡ map unlinked (take given old) = compacted-kept (take given old) (take given new) sizes
    (λ k lt. ap (λ (x : Record). x.live) (get_or-take given old k no_record (omega arith)) ∙ r.live k (omega arith))
    (λ k lt. get_or-take given new k no_record (omega arith) ∙ f.kept k (inl (omega arith)) ∙ sym (get_or-take given old k no_record (omega arith))) in
    let back : compacted (drop given new) ≡ map unlinked (left_from stays given (drop given old)) = compacted-left stays given (drop given old) (drop given new) size_drop
    (λ k lt. let inside = drop-within old given k lt in ap (λ (x : Record). x.live) (record-drop old given k) ∙ r.live (given + k) inside)
    (λ k lt. let inside = drop-within old given k lt in
    record-drop new given k ∙ forgotten-at stays old new given (given + k) f (omega arith) inside
    ∙ ap (λ (x : Record). cond (stays (given + k)) x (forgotten x)) (sym (record-drop old given k))) in
    ap compacted (sym split)
    ∙ ap (map unlinked) (filter-append (λ x. x.live) (take given new) (drop given new))
    ∙ map-append unlinked (filter (λ x. x.live) (take given new)) (filter (λ x. x.live) (drop given new))
    ∙ ap (λ (xs : List Record). xs ++ compacted (drop given new)) front
    ∙ ap (λ (xs : List Record). map unlinked (take given old) ++ xs) back
    ∙ sym (map-append unlinked (take given old) (left_from stays given (drop given old)))

-- the state of records in two parts
state-parts : (xs ys : List Record) (given : ℕ) → length xs ≡ given → state_of (map unlinked (xs ++ ys)) given ≡ record { given = map (λ r. r.lits) xs; derived = map entry ys }
unfolding state_of
state-parts xs ys given size =
    let all : map unlinked (xs ++ ys) ≡ map unlinked xs ++ map unlinked ys = map-append unlinked xs ys in
    let long : length (map unlinked xs) ≡ given = length-map xs unlinked ∙ size in
    let front : take given (map unlinked xs ++ map unlinked ys) ≡ map unlinked xs = take-append-le given (map unlinked xs) (map unlinked ys) (omega arith) ∙ take_all given (map unlinked xs) (omega arith) in
    let back : drop given (map unlinked xs ++ map unlinked ys) ≡ map unlinked ys = drop-append-le given (map unlinked xs) (map unlinked ys) (omega arith) ∙ ap (λ (zs : List Record). zs ++ map unlinked ys) (drop_all given (map unlinked xs) (omega arith)) in
    rw (all, front, back, lits-unlinked xs, entries-unlinked ys) refl

-- derived records ascend
ascend-derived : (records : List Record) (given : ℕ) → AreRecords records given → Ascend (drop given records)
ascend-derived records given r a b lt within =
    let inside = drop-within records given b within in
    rw (record-drop records given a, record-drop records given b) (r.ascending (given + a) (given + b) (omega arith) inside)

-- it is the state after the line
pub state-left : (stays : ℕ → Bool) (old new : List Record) (given : ℕ) → AreRecords old given → AreForgotten stays old new given → state_of (compacted new) given ≡ next_state (state_of old given) (Forget (gone_from stays given (drop given old)))
unfolding state_of
state-left stays old new given r f =
    let enough = r.enough in
    let size : length (take given old) ≡ given = simp length-take (omega arith) in
    let here : state_of (compacted new) given ≡ record { given = map (λ r. r.lits) (take given old); derived = map entry (left_from stays given (drop given old)) } =
    ap (λ (rs : List Record). state_of rs given) (left stays old new given r f) ∙ state-parts (take given old) (left_from stays given (drop given old)) given size in
    here ∙ ap (λ (es : List (ℕ × List ℕ)). let s : State = record { given = map (λ r. r.lits) (take given old); derived = es } in s) (sym (without-gone stays given (drop given old) (ascend-derived old given r)))

-- the line has no fault
pub line-left : (stays : ℕ → Bool) (old : List Record) (given : ℕ) → AreRecords old given → line_fault (state_of old given) (Forget (gone_from stays given (drop given old))) ≡ None
unfolding state_of
line-left stays old given r = forget-gone stays given (drop given old) (ascend-derived old given r)

-- its ids are at least 1
pub gone-from_one : (stays : ℕ → Bool) (old : List Record) (given id : ℕ) → AreRecords old given → Contains (gone_from stays given (drop given old)) id → 1 ≤ id
gone-from_one stays old given id r has =
    let found = gone-index stays given (drop given old) id has in
    let inside = drop-within old given found.0 found.1 in
    let pos = r.from_one (given + found.0) inside in
    let named : (record_at old (given + found.0)).id ≡ id = ap (λ (q : Record). q.id) (sym (record-drop old given found.0)) ∙ found.2 in
    omega arith

-- given records keep their places
given-live : (stays : ℕ → Bool) (old new : List Record) (given at : ℕ) → AreRecords old given → AreForgotten stays old new given → at < given → (record_at new at).live ≡ true
given-live stays old new given at r f lt =
    let enough = r.enough in ap (λ (x : Record). x.live) (f.kept at (inl lt)) ∙ r.live at (omega arith)

given-count : (stays : ℕ → Bool) (old new : List Record) (given n : ℕ) → AreRecords old given → AreForgotten stays old new given → n ≤ given → count_by (λ r. r.live) (take n new) ≡ n
given-count stays old new given zero r f le = refl
given-count stays old new given (suc n) r f le =
    let enough = r.enough in let count = f.count in
    let next : suc n ≡ n + 1 = omega arith in
    let before = given-count stays old new given n r f (omega arith) in
    let step = count_by_more_yes (λ (x : Record). x.live) new n no_record (omega arith) (given-live stays old new given n r f (omega arith)) in
    let e = ap (λ (m : ℕ). count_by (λ (x : Record). x.live) (take m new)) next in
    omega arith

-- so the given records are left where they were
pub given-left : (stays : ℕ → Bool) (old new : List Record) (given at : ℕ) → AreRecords old given → AreForgotten stays old new given → at < given → (at < length (compacted new)) × (record_at (compacted new) at ≡ unlinked (record_at old at))
given-left stays old new given at r f lt =
    let here = record_at-compacted new at (given-live stays old new given at r f lt) in
    let is = given-count stays old new given at r f (omega arith) in
    let below = here.0 in
    (omega arith, ap (record_at (compacted new)) (sym is) ∙ here.1 ∙ ap unlinked (f.kept at (inl lt)))

-- the number that a record comes to
came-count : (records : List Record) (to : ℕ) (c : CameFrom records to) → count_by (λ r. r.live) (take c.at records) ≡ to
came-count records to c =
    let both : ◌≡◌ {A = Option ℕ} (Some (count_by (λ r. r.live) (take c.at records))) (Some to) = sym (place-live records c.at c.live) ∙ c.place in cc

-- what is known of a record that is left
pub record IsLeft (stays : ℕ → Bool) (old new : List Record) (given to : ℕ) : Type 0 where
  pub from : CameFrom new to
  pub within : from.at < length old
  pub same : record_at new from.at ≡ record_at old from.at
  pub derived : given ≤ to → stays from.at ≡ true

live-at : (records : List Record) (at : ℕ) → (record_at records at).live ≡ true → at < length records
live-at [] at live = absurd (true≢false (sym live))
live-at (r ∷ records) zero live = omega arith
live-at (r ∷ records) (suc at) live = let rest = live-at records at live in omega arith

pub left-at : (stays : ℕ → Bool) (old new : List Record) (given to : ℕ) → AreRecords old given → AreForgotten stays old new given → to < length (compacted new) → IsLeft stays old new given to
left-at stays old new given to r f lt =
    let c = came new to lt in
    let count = f.count in
    let inside : c.at < length old = (let here = live-at new c.at c.live in omega arith) in
    let is = came-count new to c in
    elim (cases_lt c.at given) [
      | inl early ↦
          let number = given-count stays old new given c.at r f (omega arith) in
          record { from = c; within = inside; same = f.kept c.at (inl early); derived = λ le. absurd (omega arith) }
      | inr late ↦ elim (cases_Bool (stays c.at)) [
        | inl on ↦ record { from = c; within = inside; same = f.kept c.at (inr on); derived = λ le. on }
        | inr off ↦ absurd (let dead : (record_at new c.at).live ≡ false = ap (λ (x : Record). x.live) (f.gone c.at late inside off) in false≢true (sym dead ∙ c.live))
      ]
    ]

-- records come in their order
came-order : (records : List Record) (a b : ℕ) (c : CameFrom records a) (d : CameFrom records b) → a < b → c.at < d.at
came-order records a b c d lt =
    let ca = came-count records a c in let cb = came-count records b d in
    elim (cases_lt c.at d.at) [
      | inl before ↦ before
      | inr after ↦
          let most : count_by (λ (x : Record). x.live) (take d.at (take c.at records)) ≤ count_by (λ (x : Record). x.live) (take c.at records) = sum_by-take-le (λ (x : Record). cond x.live 1 0) (take c.at records) d.at in
          let cut : take d.at (take c.at records) ≡ take d.at records = take-take d.at c.at records after in
          let e = ap (λ (xs : List Record). count_by (λ (x : Record). x.live) xs) cut in
          absurd (omega arith)
    ]

-- what is so of records is so of those that are left
pub AreRecords-left : (stays : ℕ → Bool) (old new : List Record) (given : ℕ) → AreRecords old given → AreForgotten stays old new given → AreRecords (compacted new) given
AreRecords-left stays old new given r f =
    let id : (to : ℕ) (lt : to < length (compacted new)) → (record_at (compacted new) to).id ≡ (record_at old (left-at stays old new given to r f lt).from.at).id = λ to lt.
    let l = left-at stays old new given to r f lt in
    ap (λ (x : Record). x.id) l.from.same ∙ ap (λ (x : Record). x.id) l.same in
    record {
      enough = elim (cases_lt 0 given) [
        | inl some ↦ let last = (given-left stays old new given (given - 1) r f (omega arith)).0 in omega arith
        | inr none ↦ omega arith
      ];
      live = λ to lt. let l = left-at stays old new given to r f lt in ap (λ (x : Record). x.live) l.from.same ∙ l.from.live;
      numbered = λ at lt. let enough = r.enough in ap (λ (x : Record). x.id) (given-left stays old new given at r f lt).1 ∙ r.numbered at lt;
      ascending = λ a b lt within.
          let la = left-at stays old new given a r f (omega arith) in
          let lb = left-at stays old new given b r f within in
          let order = came-order new a b la.from lb.from lt in
          let up = r.ascending la.from.at lb.from.at order lb.within in
          let ea = id a (omega arith) in let eb = id b within in
          omega arith;
      from_one = λ to lt. let l = left-at stays old new given to r f lt in let pos = r.from_one l.from.at l.within in let e = id to lt in omega arith;
      follow = subst (λ (s : State). DerivedFollow s) (sym (state-left stays old new given r f))
          (DerivedFollow-next (state_of old given) (Forget (gone_from stays given (drop given old))) r.follow (line-left stays old given r));
    }

pub AreUpTo-left : (stays : ℕ → Bool) (old new : List Record) (given last : ℕ) → AreRecords old given → AreForgotten stays old new given → AreUpTo old last → AreUpTo (compacted new) last
AreUpTo-left stays old new given last r f up to lt =
    let l = left-at stays old new given to r f lt in
    let bound = up l.from.at l.within in
    let e : (record_at (compacted new) to).id ≡ (record_at old l.from.at).id = ap (λ (x : Record). x.id) l.from.same ∙ ap (λ (x : Record). x.id) l.same in
    omega arith

pub AreNoted-left : (stays : ℕ → Bool) (old new : List Record) (given : ℕ) (noted : List Bool) → AreRecords old given → AreForgotten stays old new given → AreNoted old given noted → AreNoted (compacted new) given noted
AreNoted-left stays old new given noted r f n at lit lt has positive =
    n at lit lt (subst (λ (x : Record). Contains x.lits lit) (given-left stays old new given at r f lt).1 has) positive

-- no clause is idle then
pub idle-left : (places : List Place) (old new after : List Record) (given : ℕ) → AreRecords old given → AreForgotten (is_reason places) old new given → SameRecords (compacted new) after → idle_of (places_with (place_after new) places) after given ≡ []
unfolding idle_of
idle-left places old new after given r f same =
    idle-nothing (places_with (place_after new) places) given (drop given after) (λ k lt.
    let inside = drop-within after given k lt in
    let count = same.count in
    let l = left-at (is_reason places) old new given (given + k) r f (omega arith) in
    reason-anew (place_after new) places l.from.at (given + k) l.from.place (l.derived (omega arith)))

-- ids gathered so far
pub gone-stays : (stays : ℕ → Bool) (records : List Record) (given n : ℕ) (ids : List ℕ) → ids ++ gone_from stays n (drop n records) ≡ gone_from stays given (drop given records) → n < length records → stays n ≡ true → ids ++ gone_from stays (n + 1) (drop (n + 1) records) ≡ gone_from stays given (drop given records)
gone-stays stays records given n ids sofar lt on =
    let step = gone-step stays records n lt ∙ ap (λ (b : Bool). cond b (gone_from stays (n + 1) (drop (n + 1) records)) ((record_at records n).id ∷ gone_from stays (n + 1) (drop (n + 1) records))) on in
    ap (λ (xs : List ℕ). ids ++ xs) (sym step) ∙ sofar

pub gone-more : (stays : ℕ → Bool) (records : List Record) (given n id : ℕ) (ids more : List ℕ) → ids ++ gone_from stays n (drop n records) ≡ gone_from stays given (drop given records) → n < length records → stays n ≡ false → id ≡ (record_at records n).id → more ≡ ids ++ id ∷ [] → more ++ gone_from stays (n + 1) (drop (n + 1) records) ≡ gone_from stays given (drop given records)
gone-more stays records given n id ids more sofar lt off id_is is =
    let step = gone-step stays records n lt ∙ ap (λ (b : Bool). cond b (gone_from stays (n + 1) (drop (n + 1) records)) ((record_at records n).id ∷ gone_from stays (n + 1) (drop (n + 1) records))) off in
    ap (λ (xs : List ℕ). xs ++ gone_from stays (n + 1) (drop (n + 1) records)) is
    ∙ append_assoc ids (id ∷ []) (gone_from stays (n + 1) (drop (n + 1) records))
    ∙ ap (λ (i : ℕ). ids ++ i ∷ gone_from stays (n + 1) (drop (n + 1) records)) id_is
    ∙ ap (λ (xs : List ℕ). ids ++ xs) (sym step) ∙ sofar

-- the clauses that don't stay are forgotten as far as a number
pub record ForgottenTo (old new : TrailState) (given : ℕ) (stays : ℕ → Bool) (n : ℕ) : Type 0 where
  pub same : new ≡ record old { records = new.records }
  pub count : length new.records ≡ length old.records
  pub kept : (at : ℕ) → at < given ⊎ (stays at ≡ true) → record_at new.records at ≡ record_at old.records at
  pub later : (at : ℕ) → n ≤ at → record_at new.records at ≡ record_at old.records at
  pub gone : (at : ℕ) → given ≤ at → at < n → at < length old.records → stays at ≡ false → record_at new.records at ≡ forgotten (record_at old.records at)

pub ForgottenTo-start : (t : TrailState) (given : ℕ) (stays : ℕ → Bool) → ForgottenTo t t given stays given
ForgottenTo-start t given stays = record { same = refl; count = refl; kept = λ at k. refl; later = λ at le. refl; gone = λ at from lt within off. absurd (omega arith) }

pub ForgottenTo-stays : (old new : TrailState) (given : ℕ) (stays : ℕ → Bool) (n : ℕ) → ForgottenTo old new given stays n → stays n ≡ true → ForgottenTo old new given stays (n + 1)
ForgottenTo-stays old new given stays n f on = record {
  same = f.same;
  count = f.count;
  kept = f.kept;
  later = λ at le. f.later at (omega arith);
  gone = λ at from lt within off. elim (cases_lt at n) [
    | inl before ↦ f.gone at from before within off
    | inr here ↦ let e : at ≡ n = omega arith in absurd (false≢true (sym off ∙ ap (stays) e ∙ on))
  ];
}

pub ForgottenTo-gone : (old mid new : TrailState) (given : ℕ) (stays : ℕ → Bool) (n : ℕ) → ForgottenTo old mid given stays n → given ≤ n → n < length old.records → stays n ≡ false → new ≡ record mid { records = set mid.records n (forgotten (record_at mid.records n)) } → ForgottenTo old new given stays (n + 1)
ForgottenTo-gone old mid new given stays n f from lt off is =
    let count = f.count in
    let records : new.records ≡ set mid.records n (forgotten (record_at mid.records n)) = ap (λ (t : TrailState). t.records) is in
    let other : (at : ℕ) → at ≢ n → record_at new.records at ≡ record_at mid.records at = λ at ne.
    ap (λ (rs : List Record). record_at rs at) records ∙ get_or-set_other mid.records n at (forgotten (record_at mid.records n)) no_record ne in
    record {
      same = is ∙ ap (λ (t : TrailState). let u : TrailState = record t { records = set mid.records n (forgotten (record_at mid.records n)) } in u) f.same ∙ ap (λ (rs : List Record). let u : TrailState = record old { records = rs } in u) (sym records);
      count = ap length records ∙ length-set mid.records n (forgotten (record_at mid.records n)) ∙ f.count;
      kept = λ at k. elim k [
        | inl early ↦ let ne : at ≢ n = omega arith in other at ne ∙ f.kept at (inl early)
        | inr on ↦ let ne : at ≢ n = λ e. false≢true (sym off ∙ ap (stays) (sym e) ∙ on) in other at ne ∙ f.kept at (inr on)
      ];
      later = λ at le. let ne : at ≢ n = omega arith in other at ne ∙ f.later at (omega arith);
      gone = λ at le below within idle. elim (cases_lt at n) [
        | inl before ↦ let ne : at ≢ n = omega arith in other at ne ∙ f.gone at le before within idle
        | inr here ↦
            let e : at ≡ n = omega arith in
            ap (record_at new.records) e ∙ ap (λ (rs : List Record). record_at rs n) records
            ∙ get_or-set_same mid.records n (forgotten (record_at mid.records n)) no_record (omega arith)
            ∙ ap forgotten (f.later n (omega arith)) ∙ ap (λ (m : ℕ). forgotten (record_at old.records m)) (sym e)
      ];
    }

pub Forgets-from : (old new : TrailState) (given : ℕ) (stays : ℕ → Bool) (n : ℕ) → ForgottenTo old new given stays n → length old.records ≤ n → Forgets old new given stays
Forgets-from old new given stays n f done = record { same = f.same; count = f.count; kept = f.kept; gone = λ at from lt off. f.gone at from (omega arith) lt off }

-- a clause that is the reason of no place
pub no_reason : (places : List Place) (at : ℕ) → is_reason places at ≡ false → IsNoReason places at
no_reason [] at off p lt e = absurd (omega arith)
no_reason (q ∷ places) at off zero lt e =
    let parts = or_false (names at q.reason) (is_reason places at) off in
    false≢true (sym parts.0 ∙ ap (names at) e ∙ eq-eqb at at refl)
no_reason (q ∷ places) at off (suc p) lt e = no_reason places at (or_false (names at q.reason) (is_reason places at) off).1 p (omega arith) e

-- the number that was asked for
pub nth-some : (n m at : ℕ) (found : Option ℕ) → found ≡ cond (nat_lt n m) (Some n) None → found ≡ Some at → at ≡ n
nth-some n m at found is some =
    elim (cases_Bool (nat_lt n m)) [
      | inl on ↦ let both : ◌≡◌ {A = Option ℕ} (Some at) (Some n) = sym some ∙ is ∙ ap (λ (b : Bool). cond {A = Option ℕ} b (Some n) None) on in cc
      | inr off ↦ absurd (let clash : ◌≡◌ {A = Option ℕ} (Some at) None = sym some ∙ is ∙ ap (λ (b : Bool). cond {A = Option ℕ} b (Some n) None) off in cc)
    ]

pub nth-within : (n m at : ℕ) (found : Option ℕ) → found ≡ cond (nat_lt n m) (Some n) None → found ≡ Some at → n < m
nth-within n m at found is some =
    elim (cases_lt n m) [
      | inl lt ↦ lt
      | inr ge ↦
          let off : nat_lt n m ≡ false = le-ltb n m ge in
          absurd (let clash : ◌≡◌ {A = Option ℕ} (Some at) None = sym some ∙ is ∙ ap (λ (b : Bool). cond {A = Option ℕ} b (Some n) None) off in cc)
    ]

pub nth-none : (n m : ℕ) (found : Option ℕ) → found ≡ cond (nat_lt n m) (Some n) None → found ≡ None → n < m → ⊥
nth-none n m found is none lt =
    let on : nat_lt n m ≡ true = lt-ltb n m lt in
    absurd (let clash : ◌≡◌ {A = Option ℕ} None (Some n) = sym none ∙ is ∙ ap (λ (b : Bool). cond {A = Option ℕ} b (Some n) None) on in cc)

-- what a list tells of a clause
pub stays-index : (kept : List Bool) (n : ℕ) (b other : Bool) → n < length kept → get_or kept n other ≡ b → stays_by kept n ≡ b
stays-index kept n b other lt is = get_or_default kept n true other lt ∙ is

-- what doesn't stay is no reason
pub none-reason : (old new : TrailState) (kept : List Bool) (n at : ℕ) → AreKept kept old → n < length old.records → stays_by kept n ≡ false → at ≡ n → new.places ≡ old.places → IsNoReason new.places at
none-reason old new kept n at all lt off is same =
    let idle : is_reason old.places n ≡ false = elim (cases_Bool (is_reason old.places n)) [
      | inl on ↦ absurd (false≢true (sym off ∙ all.reasons n lt on))
      | inr none ↦ none
    ] in
    subst (λ (ps : List Place). IsNoReason ps at) (sym same) (no_reason old.places at (ap (is_reason old.places) is ∙ idle))

-- and of one clause more
pub stays-push : (P : ℕ → Bool → Type 0) (kept more : List Bool) (n : ℕ) (b : Bool) → length kept ≡ n → more ≡ kept ++ b ∷ [] → P n b → ((at : ℕ) → at < n → P at (stays_by kept at)) → (at : ℕ) → at < n + 1 → P at (stays_by more at)
stays-push P kept more n b size is here before at lt =
    elim (cases_lt at n) [
      | inl below ↦ subst (P at) (sym (get_or_append_left kept (b ∷ []) true at (omega arith)) ∙ ap (λ (bs : List Bool). stays_by bs at) (sym is)) (before at below)
      | inr le ↦
          let e : n ≡ at = omega arith in
          subst (λ (m : ℕ). P m (stays_by more m)) e (subst (P n) (sym (get_or_push kept b true n size) ∙ ap (λ (bs : List Bool). stays_by bs n) (sym is)) here)
    ]
