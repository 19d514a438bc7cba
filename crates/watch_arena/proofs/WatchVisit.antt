-- What comes of the visit of a clause that watches a literal.
use Rattle.std.proofs.Common.{◌≡◌, ◌≢◌, ◌∙◌, ℕ, zero, suc, ◌+◌, ◌-◌, ◌*◌, ◌^◌, ◌<◌, ◌≤◌, true, false, cond, List, [], ◌∷◌, ◌++◌, length, get_or, set, take, Option, Some, None, refl, sym, ap, subst, arith, inl, inr, length-take, add-zero, min, get_or-set_same, get_or-take}
use Rattle.std.specs.List.{Contains}
use Rattle.std.proofs.lemmas.Bool.{cases_eq, cases_lt}
use Rattle.std.proofs.lemmas.List.{take-append-le, take_all, take-take, get_or_past, get_or_default, length_push}
use Rattle.std.proofs.lemmas.List.Sums.{sum_by-append}
use Rattle.lits_core.specs.Literals.{negation_of, variable_of}
use Rattle.lits_core.proofs.LiteralLemmas.{negation-below, same_variable, negation-negation}
use Rattle.clause_arena.specs.Records.{record_at}
use Rattle.watch_arena.specs.declared.places.Place.{Place}
use Rattle.watch_arena.specs.declared.engine.Engine.{Engine}
use Rattle.watch_arena.specs.Places.{place_at, no_place, level_of, is_assumed}
use Rattle.watch_arena.specs.Engines.{mark_of, TrueBelow, AreMarked, IsReasonBelow, IsWatched, CanAssign, IsEngine, IsAgreed, AllAgree, HasNoFresh, IsFalse, ImpliesMore, Visits, Advances, with_place}
use Rattle.watch_arena.proofs.Marks.{MarksGrow-set, TrueBelow-grown, place_at-push, place_at-new}
use Rattle.watch_arena.proofs.WatchedPair.{IsWatched-only, IsWatched-at, contains_at, index_of}
use Rattle.watch_arena.proofs.SameRecords.{SameRecords-refl, SameRecords-trans}
use Rattle.watch_arena.proofs.EngineInvariant.{IsEngine-marked, IsEngine-advanced, lit-in_range}
use Rattle.watch_arena.proofs.Pigeons.{at_most}

-- while a literal is unassigned there is room for a place
pub places_below : (marks : List ℕ) (places : List Place) (variables lit : ℕ) → AreMarked marks places variables → lit < 2 * variables → mark_of marks lit ≡ 0 → mark_of marks (negation_of lit) ≡ 0 → length places < variables
places_below marks places variables lit m range none other =
    let free : Place = record { lit = lit; level = 0; reason = None } in
    let all : List Place = places ++ free ∷ [] in
    let size : length all ≡ length places + 1 = length_push places free in
    let marks_size = m.size in
    let bound : (p : ℕ) → p < length places → (place_at places p).lit < 2 * variables = λ p lt.
    let at = m.back p lt in
    elim (cases_lt (place_at places p).lit (length marks)) [ inl below ↦ omega arith | inr ge ↦ absurd (let past : mark_of marks (place_at places p).lit ≡ 0 = get_or_past marks (place_at places p).lit 0 ge in omega arith) ] in
    let small : (l : ℕ) → l < 2 * variables → variable_of l < variables = λ l lt. omega arith in
    let differ : (a b : ℕ) → a ≢ b → a ≢ negation_of b → variable_of a ≢ variable_of b = λ a b n1 n2 e. elim (same_variable a b e) [ inl s ↦ n1 s | inr s ↦ n2 s ] in
    let le : length places + 1 ≤ variables = at_most variables (length places + 1) (λ p. variable_of (place_at all p).lit)
    (λ p lt. elim (cases_lt p (length places)) [
      | inl below ↦
          let is : variable_of (place_at all p).lit ≡ variable_of (place_at places p).lit = ap (λ (x : Place). variable_of x.lit) (place_at-push places free p below) in
          let s = small (place_at places p).lit (bound p below) in omega arith
      | inr late ↦
          let e : p ≡ length places = omega arith in
          let is : variable_of (place_at all p).lit ≡ variable_of lit = ap (λ (x : Place). variable_of x.lit) (ap (place_at all) e ∙ place_at-new places free) in
          let s = small lit range in omega arith
    ])
    (λ p q lt below_q.
    let at_p = m.back p (omega arith) in
    let is_p : variable_of (place_at all p).lit ≡ variable_of (place_at places p).lit = ap (λ (x : Place). variable_of x.lit) (place_at-push places free p (omega arith)) in
    elim (cases_lt q (length places)) [
      | inl below ↦
          let at_q = m.back q below in
          let is_q : variable_of (place_at all q).lit ≡ variable_of (place_at places q).lit = ap (λ (x : Place). variable_of x.lit) (place_at-push places free q below) in
          let n1 : (place_at places p).lit ≢ (place_at places q).lit = λ e. let same : mark_of marks (place_at places p).lit ≡ mark_of marks (place_at places q).lit = ap (mark_of marks) e in absurd (omega arith) in
          let n2 : (place_at places p).lit ≢ negation_of (place_at places q).lit = λ e.
          let gone = m.apart (place_at places q).lit (omega arith) in
          let same : mark_of marks (place_at places p).lit ≡ mark_of marks (negation_of (place_at places q).lit) = ap (mark_of marks) e in absurd (omega arith) in
          λ z. differ (place_at places p).lit (place_at places q).lit n1 n2 (sym is_p ∙ z ∙ is_q)
      | inr late ↦
          let e : q ≡ length places = omega arith in
          let is_q : variable_of (place_at all q).lit ≡ variable_of lit = ap (λ (x : Place). variable_of x.lit) (ap (place_at all) e ∙ place_at-new places free) in
          let n1 : (place_at places p).lit ≢ lit = λ e. let same : mark_of marks (place_at places p).lit ≡ mark_of marks lit = ap (mark_of marks) e in absurd (omega arith) in
          let n2 : (place_at places p).lit ≢ negation_of lit = λ e. let same : mark_of marks (place_at places p).lit ≡ mark_of marks (negation_of lit) = ap (mark_of marks) e in absurd (omega arith) in
          λ z. differ (place_at places p).lit lit n1 n2 (sym is_p ∙ z ∙ is_q)
    ]) in
    omega arith

-- a literal with a mark is true by one of the places
pub TrueBelow-all : (e : Engine) (lit : ℕ) → IsEngine e → 0 < mark_of e.marks lit → TrueBelow e.marks (length e.places.list) lit
TrueBelow-all e lit s pos = (pos, (s.marked.forth lit pos).0)

-- nothing was done
pub ImpliesMore-refl : (e : Engine) → ImpliesMore e e
ImpliesMore-refl e = record {
  records = SameRecords-refl e.arena;
  places = take_all (length e.places.list) e.places.list (omega arith);
  implied = λ p from below. absurd (omega arith);
  marks = λ lit pos. refl;
  variables = refl;
  shorts = refl;
}

pub Visits-refl : (e : Engine) (lit : ℕ) → IsEngine e → Visits e e lit
Visits-refl e lit s = record { sound = s; implies = ImpliesMore-refl e; queue_head = refl; first = refl; agreed = λ at a. a }

-- more is implied, and more after that
pub ImpliesMore-trans : (a b c : Engine) → ImpliesMore a b → ImpliesMore b c → ImpliesMore a c
ImpliesMore-trans a b c s t =
    let n : ℕ = length a.places.list in
    let front : length a.places.list ≤ length b.places.list = (let size = ap length s.places in let cut : length (take (length a.places.list) b.places.list) ≡ min (length a.places.list) (length b.places.list) = length-take (length a.places.list) b.places.list in omega arith) in
    record {
      records = SameRecords-trans a.arena b.arena c.arena s.records t.records;
      places = sym (take-take (length a.places.list) (length b.places.list) c.places.list front) ∙ ap (take (length a.places.list)) t.places ∙ s.places;
      implied = λ p from below. elim (cases_lt p (length b.places.list)) [
        | inl lt ↦
            let same : place_at c.places.list p ≡ place_at b.places.list p = sym (get_or-take (length b.places.list) c.places.list p no_place lt) ∙ ap (λ (ps : List Place). place_at ps p) t.places in
            ap is_assumed same ∙ s.implied p from lt
        | inr ge ↦ t.implied p ge below
      ];
      marks = λ lit pos. let first = s.marks lit pos in t.marks lit (omega arith) ∙ first;
      variables = t.variables ∙ s.variables;
      shorts = t.shorts ∙ s.shorts;
    }

pub Visits-trans : (a b c : Engine) (lit : ℕ) → Visits a b lit → Visits b c lit → Visits a c lit
Visits-trans a b c lit s t = record {
  sound = t.sound;
  implies = ImpliesMore-trans a b c s.implies t.implies;
  queue_head = t.queue_head ∙ s.queue_head;
  first = t.first ∙ s.first;
  agreed = λ at x. t.agreed at (s.agreed at x);
}

-- a slot of a live clause at which it watches a literal
pub record IsSlot (e : Engine) (at lit slot : ℕ) : Type 0 where
  pub slot_is : slot < 2
  pub live : (record_at e.arena at).live ≡ true
  pub two : 2 ≤ length (record_at e.arena at).lits
  pub lit_is : get_or (record_at e.arena at).lits slot 0 ≡ lit
  pub differ : lit ≢ get_or (record_at e.arena at).lits (1 - slot) 0

-- the pair that a clause watches, by a slot
pub IsWatched-slot : (e : Engine) (at lit slot : ℕ) → IsSlot e at lit slot → IsWatched (record_at e.arena at).lits lit (get_or (record_at e.arena at).lits (1 - slot) 0)
IsWatched-slot e at lit slot p = IsWatched-at (record_at e.arena at).lits slot lit (get_or (record_at e.arena at).lits (1 - slot) 0) p.slot_is p.two p.lit_is refl p.differ

-- the other literal is true
pub IsAgreed-true : (e : Engine) (at lit slot : ℕ) → IsEngine e → IsSlot e at lit slot → 0 < mark_of e.marks (get_or (record_at e.arena at).lits (1 - slot) 0) → IsAgreed e lit at
IsAgreed-true e at lit slot s p pos other live w =
    elim (IsWatched-only (record_at e.arena at).lits lit (get_or (record_at e.arena at).lits (1 - slot) 0) lit other (IsWatched-slot e at lit slot p) w) [
      | inl q ↦ subst (λ (l : ℕ). TrueBelow e.marks (length e.places.list) l) (sym q.1) (TrueBelow-all e (get_or (record_at e.arena at).lits (1 - slot) 0) s pos)
      | inr q ↦ absurd (p.differ q.0)
    ]

-- the literals of a clause whose watch could not move
pub others_false : (e : Engine) (at lit slot m : ℕ) → IsSlot e at lit slot → 0 < mark_of e.marks (negation_of lit) → HasNoFresh e at (get_or (record_at e.arena at).lits (1 - slot) 0) (length (record_at e.arena at).lits) → Contains (record_at e.arena at).lits m → m ≢ get_or (record_at e.arena at).lits (1 - slot) 0 → 0 < mark_of e.marks (negation_of m)
others_false e at lit slot m p lit_false none c ne =
    let entry = index_of (record_at e.arena at).lits m c in
    let small = p.slot_is in
    let P : ℕ → Type 0 = λ l. 0 < mark_of e.marks (negation_of l) in
    elim (cases_eq entry.0 slot) [
      | inl z ↦ subst P (sym p.lit_is ∙ ap (λ (n : ℕ). get_or (record_at e.arena at).lits n 0) (sym z) ∙ entry.2) lit_false
      | inr nz ↦ elim (cases_lt entry.0 2) [
        | inl lt ↦
            let is : entry.0 ≡ 1 - slot = omega arith in
            absurd (ne (sym entry.2 ∙ ap (λ (n : ℕ). get_or (record_at e.arena at).lits n 0) is))
        | inr ge ↦ subst P entry.2 (none entry.0 ge entry.1 (λ z. ne (sym entry.2 ∙ z)))
      ]
    ]

-- all literals of a clause are false
pub IsFalse-from_slot : (e : Engine) (at lit slot : ℕ) → IsSlot e at lit slot → 0 < mark_of e.marks (negation_of lit) → 0 < mark_of e.marks (negation_of (get_or (record_at e.arena at).lits (1 - slot) 0)) → HasNoFresh e at (get_or (record_at e.arena at).lits (1 - slot) 0) (length (record_at e.arena at).lits) → IsFalse e at
IsFalse-from_slot e at lit slot p lit_false other_false none = record {
  live = p.live;
  all_false = λ m c. elim (cases_eq m (get_or (record_at e.arena at).lits (1 - slot) 0)) [
    | inl z ↦ let P : ℕ → Type 0 = λ l. 0 < mark_of e.marks (negation_of l) in subst P (sym z) other_false
    | inr ne ↦ others_false e at lit slot m p lit_false none c ne
  ];
}

-- the level after an implied place
pub level_of-push : (places : List Place) (p : Place) → level_of (places ++ p ∷ []) ≡ level_of places + cond (is_assumed p) 1 0
level_of-push places p = sum_by-append (λ (q : Place). cond (is_assumed q) 1 0) places (p ∷ []) ∙ ap (λ (n : ℕ). level_of places + n) (let z : 0 + cond (is_assumed p) 1 0 ≡ cond (is_assumed p) 1 0 = omega arith in z)

-- the other literal may become true
pub CanAssign-from_slot : (e : Engine) (at lit slot level : ℕ) → IsEngine e → IsSlot e at lit slot → 0 < mark_of e.marks (negation_of lit) → mark_of e.marks (get_or (record_at e.arena at).lits (1 - slot) 0) ≡ 0 → mark_of e.marks (negation_of (get_or (record_at e.arena at).lits (1 - slot) 0)) ≡ 0 → HasNoFresh e at (get_or (record_at e.arena at).lits (1 - slot) 0) (length (record_at e.arena at).lits) → level ≡ level_of e.places.list → CanAssign e (record { lit = get_or (record_at e.arena at).lits (1 - slot) 0; level = level; reason = Some at })
CanAssign-from_slot e at lit slot level s p lit_false not_true not_false none is =
    let two = p.two in
    let within : 1 - slot < length (record_at e.arena at).lits = omega arith in
    let other : ℕ = get_or (record_at e.arena at).lits (1 - slot) 0 in
    record {
      range = (lit-in_range e at (1 - slot) (get_or (record_at e.arena at).lits (1 - slot) 0) s within refl).0;
      not_true = not_true;
      not_false = not_false;
      level = is ∙ sym (level_of-push e.places.list (record { lit = other; level = level; reason = Some at }) ∙ add-zero (level_of e.places.list));
      reason = λ b same.
          let is_at : at ≡ b = (let inj : ◌≡◌ {A = Option ℕ} (Some at) (Some b) = same in cc) in
          subst (λ (r : ℕ). IsReasonBelow (record_at e.arena r) e.marks (length e.places.list) other) is_at (record {
            live = p.live;
            has = contains_at (record_at e.arena at).lits (1 - slot) other within refl;
            others = λ m c ne. TrueBelow-all e (negation_of m) s (others_false e at lit slot m p lit_false none c ne);
          });
    }

-- one more implied place
pub ImpliesMore-marked : (e : Engine) (p : Place) → IsEngine e → CanAssign e p → is_assumed p ≡ false → ImpliesMore e (with_place e p)
ImpliesMore-marked e p s m implied =
    let size = s.marked.size in
    let range = m.range in
    let g = MarksGrow-set e.marks p.lit (length e.places.list) (omega arith) m.not_true in
    let count = length_push e.places.list p in
    record {
      records = SameRecords-refl e.arena;
      places = take-append-le (length e.places.list) e.places.list (p ∷ []) (omega arith) ∙ take_all (length e.places.list) e.places.list (omega arith);
      implied = λ q from below. let e_is : q ≡ length e.places.list = omega arith in ap is_assumed (ap (place_at (e.places.list ++ p ∷ [])) e_is ∙ place_at-new e.places.list p) ∙ implied;
      marks = g.kept;
      variables = refl;
      shorts = refl;
    }

pub Visits-marked : (e : Engine) (p : Place) (lit : ℕ) → IsEngine e → CanAssign e p → is_assumed p ≡ false → Visits e (with_place e p) lit
Visits-marked e p lit s m implied =
    let size = s.marked.size in
    let range = m.range in
    let g = MarksGrow-set e.marks p.lit (length e.places.list) (omega arith) m.not_true in
    let count = length_push e.places.list p in
    record {
      sound = IsEngine-marked e p s m (places_below e.marks e.places.list e.variables p.lit s.marked m.range m.not_true m.not_false);
      implies = ImpliesMore-marked e p s m implied;
      queue_head = refl;
      first = refl;
      agreed = λ at a other live w. TrueBelow-grown e.marks (set e.marks p.lit (length e.places.list + 1)) (length e.places.list) (length e.places.list) (length (e.places.list ++ p ∷ [])) other g (omega arith) (a other live w);
    }

-- the sizes of the columns, where a literal may become true
pub record HasRoom (e : Engine) : Type 0 where
  pub below : length e.places.list < e.variables
  pub heads : length e.places.list < length e.heads
  pub firsts : length e.places.list < length e.firsts
  pub room : length e.places.list < e.places.room
  pub few : length e.places.list < 2 ^ 32

pub HasRoom-from_can : (e : Engine) (p : Place) → IsEngine e → CanAssign e p → HasRoom e
HasRoom-from_can e p s m =
    let below = places_below e.marks e.places.list e.variables p.lit s.marked m.range m.not_true m.not_false in
    let heads = s.heads in let firsts = s.firsts in let room = s.room in let few = s.few in
    record { below = below; heads = omega arith; firsts = omega arith; room = omega arith; few = omega arith }

-- a literal of the first variables has a mark
pub mark_within : (e : Engine) (lit : ℕ) → IsEngine e → lit < 2 * e.variables → lit < length e.marks
mark_within e lit s range = let size = s.marked.size in omega arith

-- a clause whose other literal became true agrees
pub IsAgreed-marked : (e : Engine) (at lit slot : ℕ) (p : Place) → IsEngine e → IsSlot e at lit slot → CanAssign e p → p.lit ≡ get_or (record_at e.arena at).lits (1 - slot) 0 → IsAgreed (with_place e p) lit at
IsAgreed-marked e at lit slot p s sl m is =
    let sound = IsEngine-marked e p s m (HasRoom-from_can e p s m).below in
    let slot_now : IsSlot (with_place e p) at lit slot = record { slot_is = sl.slot_is; live = sl.live; two = sl.two; lit_is = sl.lit_is; differ = sl.differ } in
    let here : mark_of (set e.marks p.lit (length e.places.list + 1)) p.lit ≡ length e.places.list + 1 = get_or-set_same e.marks p.lit (length e.places.list + 1) 0 (mark_within e p.lit s m.range) in
    let there : mark_of (set e.marks p.lit (length e.places.list + 1)) (get_or (record_at e.arena at).lits (1 - slot) 0) ≡ length e.places.list + 1 = ap (mark_of (set e.marks p.lit (length e.places.list + 1))) (sym is) ∙ here in
    IsAgreed-true (with_place e p) at lit slot sound slot_now (omega arith)

-- the literals of a slot and their negations have marks
pub slot_other-in_range : (e : Engine) (at lit slot other : ℕ) → IsEngine e → IsSlot e at lit slot → other ≡ get_or (record_at e.arena at).lits (1 - slot) 0 → (other < 2 * e.variables) × (other < length e.marks) × (negation_of other < length e.marks)
slot_other-in_range e at lit slot other s p is = let two = p.two in lit-in_range e at (1 - slot) other s (omega arith) is

-- a number that is not positive
pub not_positive : (n : ℕ) → (0 < n → false ≡ true) → n ≡ 0
not_positive zero none = refl
not_positive (suc n) none = absurd (let clash : false ≡ true = none (omega arith) in cc)

-- the other literal may become true, by what was tested
pub CanAssign-from_visit : (e : Engine) (at lit slot other level : ℕ) → IsEngine e → IsSlot e at lit slot → other ≡ get_or (record_at e.arena at).lits (1 - slot) 0 → 0 < mark_of e.marks (negation_of lit) → (0 < mark_of e.marks other → false ≡ true) → (0 < mark_of e.marks (negation_of other) → false ≡ true) → HasNoFresh e at other (length (record_at e.arena at).lits) → level ≡ level_of e.places.list → CanAssign e (record { lit = other; level = level; reason = Some at })
CanAssign-from_visit e at lit slot other level s p is lit_false not_true not_false none at_level =
    let P : ℕ → Type 0 = λ o. CanAssign e (record { lit = o; level = level; reason = Some at }) in
    subst P (sym is)
    (CanAssign-from_slot e at lit slot level s p lit_false
    (subst (λ (o : ℕ). mark_of e.marks o ≡ 0) is (not_positive (mark_of e.marks other) not_true))
    (subst (λ (o : ℕ). mark_of e.marks (negation_of o) ≡ 0) is (not_positive (mark_of e.marks (negation_of other)) not_false))
    (subst (λ (o : ℕ). HasNoFresh e at o (length (record_at e.arena at).lits)) is none)
    at_level)

-- the literal stays one of the first variables, and false
pub Visits-range : (old new : Engine) (lit l : ℕ) → Visits old new lit → l < 2 * old.variables → l < 2 * new.variables
Visits-range old new lit l v lt = let same = v.implies.variables in omega arith

pub Visits-false : (old new : Engine) (lit l : ℕ) → Visits old new lit → 0 < mark_of old.marks l → 0 < mark_of new.marks l
Visits-false old new lit l v pos = let same = v.implies.marks l pos in omega arith

-- the queue's head moves on
pub IsEngine-head : (old new : Engine) (lit : ℕ) → IsEngine old → Visits old new lit → old.queue_head < length old.places.list → (place_at old.places.list old.queue_head).lit ≡ negation_of lit → AllAgree new lit → IsEngine (record new { queue_head = new.queue_head + 1 })
IsEngine-head old new lit s v below is agree =
    let at : mark_of old.marks (negation_of lit) ≡ old.queue_head + 1 = ap (mark_of old.marks) (sym is) ∙ s.marked.back old.queue_head below in
    let kept = v.implies.marks (negation_of lit) (omega arith) in
    let queue_head = v.queue_head in
    let now : mark_of new.marks (negation_of lit) ≡ new.queue_head + 1 = omega arith in
    let bound = (v.sound.marked.forth (negation_of lit) (omega arith)).0 in
    IsEngine-advanced new lit v.sound (omega arith) now agree

-- there are at most as many places as variables
pub places_at_most : (marks : List ℕ) (places : List Place) (variables : ℕ) → AreMarked marks places variables → length places ≤ variables
places_at_most marks places variables m =
    let marks_size = m.size in
    let small : (l : ℕ) → l < 2 * variables → variable_of l < variables = λ l lt. omega arith in
    at_most variables (length places) (λ p. variable_of (place_at places p).lit)
    (λ p lt.
    let at = m.back p lt in
    elim (cases_lt (place_at places p).lit (length marks)) [ inl below ↦ small (place_at places p).lit (omega arith) | inr ge ↦ absurd (let past : mark_of marks (place_at places p).lit ≡ 0 = get_or_past marks (place_at places p).lit 0 ge in omega arith) ])
    (λ p q lt below z.
    let at_p = m.back p (omega arith) in
    let at_q = m.back q below in
    elim (same_variable (place_at places p).lit (place_at places q).lit z) [
      | inl e ↦ let same : mark_of marks (place_at places p).lit ≡ mark_of marks (place_at places q).lit = ap (mark_of marks) e in absurd (omega arith)
      | inr e ↦
          let gone = m.apart (place_at places q).lit (omega arith) in
          let same : mark_of marks (place_at places p).lit ≡ mark_of marks (negation_of (place_at places q).lit) = ap (mark_of marks) e in absurd (omega arith)
    ])

-- a literal of a place, and its negation
pub place_lit-in_range : (e : Engine) (p lit : ℕ) → IsEngine e → p < length e.places.list → (place_at e.places.list p).lit ≡ lit → (lit < 2 * e.variables) × (mark_of e.marks lit ≡ p + 1) × (negation_of lit < 2 * e.variables)
place_lit-in_range e p lit s lt is =
    let at : mark_of e.marks lit ≡ p + 1 = ap (mark_of e.marks) (sym is) ∙ s.marked.back p lt in
    let size = s.marked.size in
    let below : lit < 2 * e.variables = elim (cases_lt lit (length e.marks)) [ inl under ↦ omega arith | inr ge ↦ absurd (let past : mark_of e.marks lit ≡ 0 = get_or_past e.marks lit 0 ge in omega arith) ] in
    (below, at, negation-below lit e.variables below)

-- nothing was done, and one after another
pub Advances-refl : (e : Engine) → IsEngine e → Advances e e
Advances-refl e s = record { sound = s; implies = ImpliesMore-refl e; first = refl }

pub Advances-trans : (a b c : Engine) → Advances a b → Advances b c → Advances a c
Advances-trans a b c s t = record { sound = t.sound; implies = ImpliesMore-trans a b c s.implies t.implies; first = t.first ∙ s.first }

pub Advances-visits : (old new : Engine) (lit : ℕ) → Visits old new lit → Advances old new
Advances-visits old new lit v = record { sound = v.sound; implies = v.implies; first = v.first }

-- the queue's head moved on
pub Advances-head : (old new : Engine) (lit : ℕ) → IsEngine old → Visits old new lit → old.queue_head < length old.places.list → (place_at old.places.list old.queue_head).lit ≡ negation_of lit → AllAgree new lit → Advances old (record new { queue_head = new.queue_head + 1 })
Advances-head old new lit s v below is agree =
    record {
      sound = IsEngine-head old new lit s v below is agree;
      implies = record { records = v.implies.records; places = v.implies.places; implied = v.implies.implied; marks = v.implies.marks; variables = v.implies.variables; shorts = v.implies.shorts };
      first = v.first;
    }

-- the place that is read
pub place_read : (places : List Place) (p : ℕ) (q : Place) → p < length places → q ≡ get_or places p q → place_at places p ≡ q
place_read places p q lt is = sym (is ∙ get_or_default places p q no_place lt)

-- the literal that the place at the queue's head made false
pub head_lit : (e : Engine) (q : Place) (lit : ℕ) → IsEngine e → e.queue_head < length e.places.list → q ≡ get_or e.places.list e.queue_head q → lit ≡ negation_of q.lit → (lit < 2 * e.variables) × (0 < mark_of e.marks (negation_of lit)) × ((place_at e.places.list e.queue_head).lit ≡ negation_of lit)
head_lit e q lit s below is neg =
    let place : (place_at e.places.list e.queue_head).lit ≡ q.lit = ap (λ (x : Place). x.lit) (place_read e.places.list e.queue_head q below is) in
    let facts = place_lit-in_range e e.queue_head q.lit s below place in
    let back : negation_of lit ≡ q.lit = ap negation_of neg ∙ negation-negation q.lit in
    let marked : mark_of e.marks (negation_of lit) ≡ e.queue_head + 1 = ap (mark_of e.marks) back ∙ facts.1 in
    let range : negation_of q.lit < 2 * e.variables = facts.2 in
    (omega arith, omega arith, place ∙ sym back)

-- where propagation has come to
pub Advances-sound : (a b : Engine) → Advances a b → IsEngine b
Advances-sound a b x = x.sound
