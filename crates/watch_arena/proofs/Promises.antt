-- The promises of a trail's calls.
use Rattle.std.proofs.Common.{◌≡◌, ◌≢◌, ◌∙◌, ℕ, zero, suc, ◌+◌, ◌-◌, ◌*◌, ◌<◌, ◌≤◌, ◌==◌, Bool, true, false, cond, List, [], ◌∷◌, ◌++◌, length, take, min, Option, Some, None, refl, sym, ap, subst, arith, inl, inr, length-take, add-zero}
use Rattle.std.specs.Prelude.{MatchOption, is_none}
use Rattle.std.specs.List.{Contains, position_from}
use Rattle.std.specs.List.Sorted.{IsPermutation}
use Rattle.std.proofs.lemmas.List.Sorted.{IsPermutation-refl}
use Rattle.std.proofs.lemmas.Bool.{cases_eq, cases_lt, false≢true}
use Rattle.std.proofs.lemmas.List.{take_all, get_or_past, length_push}
use Rattle.std.proofs.lemmas.List.Sums.{count_by_more_no}
use borrow.Author.Tests.{eq-eqb, ne_eqb}
use Rattle.lits_core.specs.Literals.{negation_of, variable_of}
use Rattle.lits_core.proofs.LiteralLemmas.{same_variable, variable_of-negation}
use Rattle.clause_arena.specs.Records.{Record, record_at, new_record}
use Rattle.watch_arena.specs.declared.places.Place.{Place}
use Rattle.watch_arena.specs.declared.engine.Engine.{Engine}
use Rattle.watch_arena.specs.Places.{place_at, no_place, is_assumed, level_of, place_of}
use Rattle.watch_arena.specs.Trails.{IsReason, Propagates, IsConflict, IsPropagated, SameRecords, IsSameRecord, Adds, AreInRange}
use Rattle.watch_arena.specs.Engines.{mark_of, IsReasonBelow, CanAssign, IsEngine, IsFalse, IsDone, ImpliesMore, KeepsTrail, trail_state}
use Rattle.watch_arena.proofs.WatchedPair.{record_at-put, record_at-new}
use Rattle.watch_arena.specs.Chains.{SameBodies}
use Rattle.watch_arena.proofs.SameRecords.{SameRecords-trans}
use Rattle.watch_arena.proofs.BareEngine.{SameRecords-bodies}
use Rattle.watch_arena.proofs.WatchVisit.{level_of-push, TrueBelow-all}
use Rattle.watch_arena.proofs.ByIndex.{position_is, position_none}
use Rattle.watch_arena.proofs.TrailView.{IsReason-below, IsPropagated-done, IsConflict-false, mark-is_true}

-- implied places leave the level
pub level_of-implied : (places : List Place) (n k : ℕ) → n + k ≤ length places → ((p : ℕ) → n ≤ p → p < length places → is_assumed (place_at places p) ≡ false) → level_of (take (n + k) places) ≡ level_of (take n places)
level_of-implied places n zero le implied = ap (λ (m : ℕ). level_of (take m places)) (add-zero n)
level_of-implied places n (suc k) le implied =
    let next : n + suc k ≡ (n + k) + 1 = omega arith in
    ap (λ (m : ℕ). level_of (take m places)) next
    ∙ count_by_more_no is_assumed places (n + k) no_place (omega arith) (implied (n + k) (omega arith) (omega arith))
    ∙ level_of-implied places n k (omega arith) implied

-- what propagation promises
pub Propagates-implied : (old new : Engine) → IsEngine old → IsEngine new → ImpliesMore old new → Propagates (trail_state old) (trail_state new)
Propagates-implied old new s t st =
    let n : ℕ = length old.places.list in
    let front : length old.places.list ≤ length new.places.list = (let size = ap length st.places in let cut : length (take (length old.places.list) new.places.list) ≡ min (length old.places.list) (length new.places.list) = length-take (length old.places.list) new.places.list in omega arith) in
    let upto : (q : ℕ) → length old.places.list ≤ q → q ≤ length new.places.list → level_of (take q new.places.list) ≡ level_of old.places.list = λ q ge le.
    let sum : length old.places.list + (q - length old.places.list) ≡ q = omega arith in
    ap (λ (m : ℕ). level_of (take m new.places.list)) (sym sum) ∙ level_of-implied new.places.list (length old.places.list) (q - length old.places.list) (omega arith) st.implied ∙ ap level_of st.places in
    record {
      records = st.records;
      places = st.places;
      level = ap level_of (sym (take_all (length new.places.list) new.places.list (omega arith))) ∙ upto (length new.places.list) front (omega arith);
      variables = st.variables;
      at_the_level = λ p ge lt. t.levelled p lt ∙ upto (p + 1) (omega arith) (omega arith);
      implied = λ p ge lt.
          let go : (o : Option ℕ) → (place_at new.places.list p).reason ≡ o → MatchOption o ⊥ (λ at. IsReason new.arena (take p new.places.list) (place_at new.places.list p).lit at) = λ o. elim o as (λ o. (place_at new.places.list p).reason ≡ o → MatchOption o ⊥ (λ at. IsReason new.arena (take p new.places.list) (place_at new.places.list p).lit at)) [
            | None ↦ λ is. false≢true (sym (st.implied p ge lt) ∙ ap is_none is)
            | Some at ↦ λ is. IsReason-below new at p (place_at new.places.list p).lit t (omega arith) (t.reasoned p at lt is)
          ] in
          go (place_at new.places.list p).reason refl;
    }

-- what it found
pub found_seen : (e : Engine) (o : Option ℕ) → IsEngine e → MatchOption o (IsDone e) (λ at. IsFalse e at) → MatchOption o (IsPropagated (trail_state e)) (λ at. IsConflict (trail_state e) at)
found_seen e None s p = IsPropagated-done e s p
found_seen e (Some at) s p = IsConflict-false e at s p

-- where a search finds nothing, the first does not pass, and no later one
first_fails : (test : Place → Bool) (p : Place) (places : List Place) (from : ℕ) → position_from test from (p ∷ places) ≡ None → (test p ≡ false) × (position_from test (from + 1) places ≡ None)
first_fails test p places from is =
    let P : Bool → Type 0 = λ b. test p ≡ b → (test p ≡ false) × (position_from test (from + 1) places ≡ None) in
    let go : (b : Bool) → P b = λ b. elim b as P [
      | true ↦ λ on. absurd (let clash : ◌≡◌ {A = Option ℕ} (Some from) None = ap (λ (b : Bool). cond b (Some from) (position_from test (from + 1) places)) (sym on) ∙ is in cc)
      | false ↦ λ off. (off, ap (λ (b : Bool). cond b (Some from) (position_from test (from + 1) places)) (sym off) ∙ is)
    ] in
    go (test p) refl

-- where a search finds nothing, nothing passes
pub none_passes : (test : Place → Bool) (places : List Place) (from k : ℕ) → position_from test from places ≡ None → k < length places → test (place_at places k) ≡ false
none_passes test [] from k is lt = absurd (omega arith)
none_passes test (p ∷ places) from zero is lt = (first_fails test p places from is).0
none_passes test (p ∷ places) from (suc k) is lt = none_passes test places (from + 1) k (first_fails test p places from is).1 (omega arith)

-- an unassigned variable's literals have no marks
pub unassigned_marks : (e : Engine) (lit : ℕ) → IsEngine e → place_of e.places.list (variable_of lit) ≡ None → (mark_of e.marks lit ≡ 0) × (mark_of e.marks (negation_of lit) ≡ 0)
unassigned_marks e lit s none =
    let free : (l : ℕ) → variable_of l ≡ variable_of lit → mark_of e.marks l ≡ 0 = λ l same. elim (cases_lt 0 (mark_of e.marks l)) [
      | inl pos ↦
          let facts = s.marked.forth l pos in
          let below = facts.0 in
          let off = none_passes (λ (p : Place). variable_of p.lit == variable_of lit) e.places.list 0 (mark_of e.marks l - 1) none (omega arith) in
          let is : variable_of (place_at e.places.list (mark_of e.marks l - 1)).lit ≡ variable_of lit = ap variable_of facts.1 ∙ same in
          absurd (false≢true (sym off ∙ eq-eqb (variable_of (place_at e.places.list (mark_of e.marks l - 1)).lit) (variable_of lit) is))
      | inr zero_mark ↦ omega arith
    ] in
    (free lit refl, free (negation_of lit) (variable_of-negation lit))

-- the place of a literal's variable, by its mark
pub place_of-mark : (e : Engine) (lit : ℕ) → IsEngine e → 0 < mark_of e.marks lit → place_of e.places.list (variable_of lit) ≡ Some (mark_of e.marks lit - 1)
place_of-mark e lit s pos =
    let facts = s.marked.forth lit pos in
    let below = facts.0 in
    position_is (λ (p : Place). variable_of p.lit == variable_of lit) e.places.list 0 (mark_of e.marks lit - 1) no_place (omega arith)
    (eq-eqb (variable_of (place_at e.places.list (mark_of e.marks lit - 1)).lit) (variable_of lit) (ap variable_of facts.1))
    (λ j lt.
    let at = s.marked.back j (omega arith) in
    let ne : variable_of (place_at e.places.list j).lit ≢ variable_of lit = λ z. elim (same_variable (place_at e.places.list j).lit lit z) [
      | inl same ↦ let m : mark_of e.marks (place_at e.places.list j).lit ≡ mark_of e.marks lit = ap (mark_of e.marks) same in absurd (omega arith)
      | inr other ↦
          let gone = s.marked.apart lit pos in
          let m : mark_of e.marks (place_at e.places.list j).lit ≡ mark_of e.marks (negation_of lit) = ap (mark_of e.marks) other in absurd (omega arith)
    ] in
    ne_eqb (variable_of (place_at e.places.list j).lit) (variable_of lit) ne)
    ∙ ap Some (let z : 0 + (mark_of e.marks lit - 1) ≡ mark_of e.marks lit - 1 = omega arith in z)

-- a variable with no mark has no place
pub place_of-none : (e : Engine) (variable : ℕ) → IsEngine e → mark_of e.marks (2 * variable) ≡ 0 → mark_of e.marks (2 * variable + 1) ≡ 0 → place_of e.places.list variable ≡ None
place_of-none e variable s even odd =
    position_none (λ (p : Place). variable_of p.lit == variable) e.places.list 0 no_place (λ j lt.
    let at = s.marked.back j lt in
    let ne : variable_of (place_at e.places.list j).lit ≢ variable = λ z. elim (cases_eq (place_at e.places.list j).lit (2 * variable)) [
      | inl same ↦ let m : mark_of e.marks (place_at e.places.list j).lit ≡ mark_of e.marks (2 * variable) = ap (mark_of e.marks) same in absurd (omega arith)
      | inr other ↦
          let is : (place_at e.places.list j).lit ≡ 2 * variable + 1 = omega arith in
          let m : mark_of e.marks (place_at e.places.list j).lit ≡ mark_of e.marks (2 * variable + 1) = ap (mark_of e.marks) is in absurd (omega arith)
    ] in
    ne_eqb (variable_of (place_at e.places.list j).lit) variable ne)

-- a clause may imply a literal
pub CanAssign-implied : (e : Engine) (lit at : ℕ) → IsEngine e → place_of e.places.list (variable_of lit) ≡ None → IsReason e.arena e.places.list lit at → CanAssign e (record { lit = lit; level = level_of e.places.list; reason = Some at })
CanAssign-implied e lit at s none r =
    let free = unassigned_marks e lit s none in
    record {
      range = s.in_range at lit r.has;
      not_true = free.0;
      not_false = free.1;
      level = sym (level_of-push e.places.list (record { lit = lit; level = level_of e.places.list; reason = Some at }) ∙ add-zero (level_of e.places.list));
      reason = λ b same.
          let is_at : at ≡ b = (let inj : ◌≡◌ {A = Option ℕ} (Some at) (Some b) = same in cc) in
          subst (λ (x : ℕ). IsReasonBelow (record_at e.arena x) e.marks (length e.places.list) lit) is_at (record {
            live = r.live;
            has = r.has;
            others = λ m c ne. TrueBelow-all e (negation_of m) s (mark-is_true e.marks e.places.list e.variables (negation_of m) s.marked (r.others m c ne));
          });
    }

-- the place of a variable, by the mark of its positive literal, of its negative one, or of neither
pub place_of-even : (e : Engine) (variable mark : ℕ) → IsEngine e → mark ≡ mark_of e.marks (2 * variable) → mark ≢ 0 → Some (mark - 1) ≡ place_of e.places.list variable
place_of-even e variable mark s is ne =
    let half : variable_of (2 * variable) ≡ variable = omega arith in
    ap (λ (n : ℕ). Some (n - 1)) is ∙ sym (place_of-mark e (2 * variable) s (omega arith)) ∙ ap (place_of e.places.list) half

pub place_of-odd : (e : Engine) (variable mark : ℕ) → IsEngine e → mark ≡ mark_of e.marks (2 * variable + 1) → mark ≢ 0 → Some (mark - 1) ≡ place_of e.places.list variable
place_of-odd e variable mark s is ne =
    let half : variable_of (2 * variable + 1) ≡ variable = omega arith in
    ap (λ (n : ℕ). Some (n - 1)) is ∙ sym (place_of-mark e (2 * variable + 1) s (omega arith)) ∙ ap (place_of e.places.list) half

pub place_of-neither : (e : Engine) (variable even odd : ℕ) → IsEngine e → even ≡ mark_of e.marks (2 * variable) → odd ≡ mark_of e.marks (2 * variable + 1) → even ≡ 0 → odd ≡ 0 → None ≡ place_of e.places.list variable
place_of-neither e variable even odd s is_even is_odd none_even none_odd =
    sym (place_of-none e variable s (sym is_even ∙ none_even) (sym is_odd ∙ none_odd))

-- a number past the last variable
pub place_of-past : (e : Engine) (variable : ℕ) → IsEngine e → e.variables ≤ variable → None ≡ place_of e.places.list variable
place_of-past e variable s past =
    let size = s.marked.size in
    sym (place_of-none e variable s (get_or_past e.marks (2 * variable) 0 (omega arith)) (get_or_past e.marks (2 * variable + 1) 0 (omega arith)))

-- one record more, with its literals in another order
pub SameRecords-added : (records : List Record) (given lits : List ℕ) (i : ℕ) → IsPermutation given lits → SameRecords (records ++ new_record i given ∷ []) (records ++ new_record i lits ∷ [])
SameRecords-added records given lits i permuted = record {
  count = length_push records (new_record i lits) ∙ sym (length_push records (new_record i given));
  each = λ at. elim (cases_eq at (length records)) [
    | inl z ↦
        let old : record_at (records ++ new_record i given ∷ []) at ≡ new_record i given = ap (record_at (records ++ new_record i given ∷ [])) z ∙ record_at-new records (new_record i given) in
        let now : record_at (records ++ new_record i lits ∷ []) at ≡ new_record i lits = ap (record_at (records ++ new_record i lits ∷ [])) z ∙ record_at-new records (new_record i lits) in
        let here : IsSameRecord (new_record i given) (new_record i lits) = record { id = refl; live = refl; lits = permuted } in
        let there : IsSameRecord (new_record i given) (record_at (records ++ new_record i lits ∷ []) at) = subst (λ (r : Record). IsSameRecord (new_record i given) r) (sym now) here in
        subst (λ (r : Record). IsSameRecord r (record_at (records ++ new_record i lits ∷ []) at)) (sym old) there
    | inr ne ↦
        let old = record_at-put records (new_record i given) at ne in
        let now = record_at-put records (new_record i lits) at ne in
        let here : IsSameRecord (record_at records at) (record_at records at) = record { id = refl; live = refl; lits = IsPermutation-refl (record_at records at).lits } in
        let there : IsSameRecord (record_at records at) (record_at (records ++ new_record i lits ∷ []) at) = subst (λ (r : Record). IsSameRecord (record_at records at) r) (sym now) here in
        subst (λ (r : Record). IsSameRecord r (record_at (records ++ new_record i lits ∷ []) at)) (sym old) there
  ];
}

-- what adding promises
pub Adds-from : (old new : Engine) (given lits : List ℕ) (i : ℕ) → KeepsTrail old new → IsPermutation given lits → SameBodies (old.arena ++ new_record i lits ∷ []) new.arena → Adds (trail_state old) (trail_state new) given i
Adds-from old new given lits i kept permuted arena = record {
  records = SameRecords-trans (old.arena ++ new_record i given ∷ []) (old.arena ++ new_record i lits ∷ []) new.arena (SameRecords-added old.arena given lits i permuted) (SameRecords-bodies (old.arena ++ new_record i lits ∷ []) new.arena arena);
  places = kept.places;
  variables = kept.variables;
  level = ap level_of kept.places;
}

-- literals of the first variables
pub codes_in_range : (lits : List ℕ) (variables : ℕ) → AreInRange lits variables → (lit : ℕ) → Contains lits lit → lit < 2 * variables
codes_in_range lits variables range lit c = let below = range lit c in omega arith
