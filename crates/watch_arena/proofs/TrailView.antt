-- From the parts of an engine to what is seen of a trail.
use Rattle.std.proofs.Common.{◌≡◌, ◌≢◌, ◌∙◌, ◌⊎◌, ℕ, ◌-◌, ◌<◌, ◌≤◌, ◌==◌, Bool, true, false, not, List, length, get_or, take, refl, sym, ap, arith, inl, inr, length-take, get_or-take}
use Rattle.std.specs.Prelude.{◌||◌, ◌&&◌}
use Rattle.std.specs.List.{Contains, list_all}
use Rattle.std.proofs.lemmas.Bool.{cases_lt, false≢true}
use Rattle.std.proofs.lemmas.List.{take_all}
use borrow.Author.Tests.{eqb-true, eq-eqb}
use Rattle.lits_core.specs.Literals.{negation_of}
use Rattle.lits_core.proofs.LiteralLemmas.{same_variable}
use Rattle.clause_arena.specs.Records.{record_at}
use Rattle.watch_arena.specs.declared.places.Place.{Place}
use Rattle.watch_arena.specs.declared.engine.Engine.{Engine}
use Rattle.watch_arena.specs.Places.{place_at, no_place, is_true, is_false, is_false_clause, is_unit_clause}
use Rattle.watch_arena.specs.Trails.{IsReason, IsTrail, IsConflict, IsPropagated}
use Rattle.watch_arena.specs.Engines.{mark_of, TrueBelow, AreMarked, IsReasonBelow, IsWatched, IsEngine, IsFalse, IsDone, trail_state}
use Rattle.watch_arena.proofs.WatchedPair.{contains_at, index_of}
use Rattle.watch_arena.proofs.WatchVisit.{place_lit-in_range}
use Rattle.watch_arena.proofs.ByIndex.{or_cases, or_false, and_both, not_true, list_any_at, list_any_index, list_all_at, list_all_from}

-- a literal that is marked is true by its place
pub is_true-marked : (marks : List ℕ) (places : List Place) (variables n lit : ℕ) → AreMarked marks places variables → n ≤ length places → TrueBelow marks n lit → is_true (take n places) lit ≡ true
is_true-marked marks places variables n lit m le t =
    let facts = m.forth lit t.0 in
    let pos = t.0 in let below = t.1 in
    let size : length (take n places) ≡ n = simp length-take (omega arith) in
    let lt : mark_of marks lit - 1 < n = omega arith in
    let is : (place_at (take n places) (mark_of marks lit - 1)).lit ≡ lit = ap (λ (p : Place). p.lit) (get_or-take n places (mark_of marks lit - 1) no_place lt) ∙ facts.1 in
    list_any_at (λ (p : Place). p.lit == lit) (take n places) (mark_of marks lit - 1) no_place (omega arith) (eq-eqb (place_at (take n places) (mark_of marks lit - 1)).lit lit is)

-- by any place
pub is_true-mark : (marks : List ℕ) (places : List Place) (variables lit : ℕ) → AreMarked marks places variables → 0 < mark_of marks lit → is_true places lit ≡ true
is_true-mark marks places variables lit m pos =
    let all = take_all (length places) places (omega arith) in
    ap (λ (ps : List Place). is_true ps lit) (sym all) ∙ is_true-marked marks places variables (length places) lit m (omega arith) (pos, (m.forth lit pos).0)

-- a literal that is true is marked
pub mark-is_true : (marks : List ℕ) (places : List Place) (variables lit : ℕ) → AreMarked marks places variables → is_true places lit ≡ true → 0 < mark_of marks lit
mark-is_true marks places variables lit m h =
    let found = list_any_index (λ (p : Place). p.lit == lit) places no_place h in
    let is : (place_at places found.0).lit ≡ lit = eqb-true (place_at places found.0).lit lit found.2 in
    let at = m.back found.0 found.1 in
    let same : mark_of marks (place_at places found.0).lit ≡ mark_of marks lit = ap (mark_of marks) is in omega arith

-- and where it is not true it is not
pub no_mark : (marks : List ℕ) (places : List Place) (variables lit : ℕ) → AreMarked marks places variables → is_true places lit ≡ false → mark_of marks lit ≡ 0
no_mark marks places variables lit m h =
    elim (cases_lt 0 (mark_of marks lit)) [
      | inl pos ↦ absurd (false≢true (sym h ∙ is_true-mark marks places variables lit m pos))
      | inr none ↦ omega arith
    ]

-- no literal is true and false
pub not_both : (e : Engine) (lit : ℕ) → IsEngine e → 0 < mark_of e.marks lit → 0 < mark_of e.marks (negation_of lit) → ⊥
not_both e lit s a b = let none = s.marked.apart lit a in absurd (omega arith)

-- a reason, by its parts
pub IsReason-below : (e : Engine) (at n lit : ℕ) → IsEngine e → n ≤ length e.places.list → IsReasonBelow (record_at e.arena at) e.marks n lit → IsReason e.arena (take n e.places.list) lit at
IsReason-below e at n lit s le r = record {
  live = r.live;
  has = r.has;
  others = λ m c ne. is_true-marked e.marks e.places.list e.variables n (negation_of m) s.marked le (r.others m c ne);
}

-- what is so of a trail
pub IsTrail-sound : (e : Engine) → IsEngine e → IsTrail (trail_state e)
IsTrail-sound e s = record {
  reasons = λ p at lt is. IsReason-below e at p (place_at e.places.list p).lit s (omega arith) (s.reasoned p at lt is);
  variable_once = λ p q lt below z.
      let at_p = s.marked.back p (omega arith) in
      let at_q = s.marked.back q below in
      elim (same_variable (place_at e.places.list p).lit (place_at e.places.list q).lit z) [
        | inl i ↦ let same : mark_of e.marks (place_at e.places.list p).lit ≡ mark_of e.marks (place_at e.places.list q).lit = ap (mark_of e.marks) i in absurd (omega arith)
        | inr i ↦
            let gone = s.marked.apart (place_at e.places.list q).lit (omega arith) in
            let same : mark_of e.marks (place_at e.places.list p).lit ≡ mark_of e.marks (negation_of (place_at e.places.list q).lit) = ap (mark_of e.marks) i in absurd (omega arith)
      ];
  places_in_range = λ p lt. let range = (place_lit-in_range e p (place_at e.places.list p).lit s lt refl).0 in omega arith;
  lits_in_range = λ at lit c. let range = s.in_range at lit c in omega arith;
  levels = s.levelled;
  level = refl;
}

-- a false clause
pub IsConflict-false : (e : Engine) (at : ℕ) → IsEngine e → IsFalse e at → IsConflict (trail_state e) at
IsConflict-false e at s f = record {
  live = f.live;
  all_false = list_all_from (is_false e.places.list) (record_at e.arena at).lits 0 (λ k lt.
      is_true-mark e.marks e.places.list e.variables (negation_of (get_or (record_at e.arena at).lits k 0)) s.marked (f.all_false (get_or (record_at e.arena at).lits k 0) (contains_at (record_at e.arena at).lits k (get_or (record_at e.arena at).lits k 0) lt refl)));
}

-- why a clause is neither false nor unit: it has a true literal, or two different ones that are not false
IsFree : Engine → List ℕ → Type 0
IsFree e lits = ((l : ℕ) × Contains lits l × (0 < mark_of e.marks l)) ⊎ ((a : ℕ) × (b : ℕ) × Contains lits a × Contains lits b × (a ≢ b) × (mark_of e.marks (negation_of a) ≡ 0) × (mark_of e.marks (negation_of b) ≡ 0))

-- so it is of each live clause where propagation has come to its end
is_free : (e : Engine) (at : ℕ) → IsEngine e → IsDone e → (record_at e.arena at).live ≡ true → IsFree e (record_at e.arena at).lits
unfolding IsFree
is_free e at s d live =
    elim (s.kinds at live) [
      | inl short ↦
          let one = s.now.alone.each at live short in
          let index = one.within in let done = d.first in
          let met = one.settled (omega arith) in
          inl (get_or (record_at e.arena at).lits 0 0, contains_at (record_at e.arena at).lits 0 (get_or (record_at e.arena at).lits 0 0) met.0 refl, met.1.0)
      | inr w ↦
          let two = w.two in
          let has_a = contains_at (record_at e.arena at).lits 0 (get_or (record_at e.arena at).lits 0 0) (omega arith) refl in
          let has_b = contains_at (record_at e.arena at).lits 1 (get_or (record_at e.arena at).lits 1 0) (omega arith) refl in
          let turned : IsWatched (record_at e.arena at).lits (get_or (record_at e.arena at).lits 1 0) (get_or (record_at e.arena at).lits 0 0) = record { differ = λ z. w.differ (sym z); two = w.two; either = inr (refl, refl) } in
          let queue_head = d.queue_head in
          elim (cases_lt 0 (mark_of e.marks (negation_of (get_or (record_at e.arena at).lits 0 0)))) [
            | inl pos ↦
                let le = (s.marked.forth (negation_of (get_or (record_at e.arena at).lits 0 0)) pos).0 in
                let t = s.now.watched at (get_or (record_at e.arena at).lits 0 0) (get_or (record_at e.arena at).lits 1 0) live w (pos, omega arith) in
                inl (get_or (record_at e.arena at).lits 1 0, has_b, t.0)
            | inr none_a ↦ elim (cases_lt 0 (mark_of e.marks (negation_of (get_or (record_at e.arena at).lits 1 0)))) [
              | inl pos ↦
                  let le = (s.marked.forth (negation_of (get_or (record_at e.arena at).lits 1 0)) pos).0 in
                  let t = s.now.watched at (get_or (record_at e.arena at).lits 1 0) (get_or (record_at e.arena at).lits 0 0) live turned (pos, omega arith) in
                  inl (get_or (record_at e.arena at).lits 0 0, has_a, t.0)
              | inr none_b ↦ inr (get_or (record_at e.arena at).lits 0 0, get_or (record_at e.arena at).lits 1 0, has_a, has_b, w.differ, omega arith, omega arith)
            ]
          ]
    ]

-- a free clause is not false
free_not_false : (e : Engine) (lits : List ℕ) → IsEngine e → IsFree e lits → is_false_clause e.places.list lits ≡ true → ⊥
unfolding IsFree
free_not_false e lits s f h =
    let each : (m : ℕ) → Contains lits m → 0 < mark_of e.marks (negation_of m) = λ m c.
    let entry = index_of lits m c in
    let t : is_false e.places.list (get_or lits entry.0 0) ≡ true = list_all_at (is_false e.places.list) lits entry.0 0 h entry.1 in
    mark-is_true e.marks e.places.list e.variables (negation_of m) s.marked (ap (is_false e.places.list) (sym entry.2) ∙ t) in
    elim f [
      | inl (l, c, pos) ↦ not_both e l s pos (each l c)
      | inr (a, b, ca, cb, ne, na, nb) ↦ let pos = each a ca in absurd (omega arith)
    ]

-- nor unit
free_not_unit : (e : Engine) (lits : List ℕ) → IsEngine e → IsFree e lits → is_unit_clause e.places.list lits ≡ true → ⊥
unfolding IsFree
free_not_unit e lits s f h =
    let found = list_any_index (λ (l : ℕ). not (is_true e.places.list l || is_false e.places.list l) && list_all (λ m. m == l || is_false e.places.list m) lits) lits 0 h in
    let unit : ℕ = get_or lits found.0 0 in
    let both = and_both (not (is_true e.places.list (get_or lits found.0 0) || is_false e.places.list (get_or lits found.0 0))) (list_all (λ m. m == get_or lits found.0 0 || is_false e.places.list m) lits) found.2 in
    let free = or_false (is_true e.places.list (get_or lits found.0 0)) (is_false e.places.list (get_or lits found.0 0)) (not_true (is_true e.places.list (get_or lits found.0 0) || is_false e.places.list (get_or lits found.0 0)) both.0) in
    let not_marked = no_mark e.marks e.places.list e.variables (get_or lits found.0 0) s.marked free.0 in
    let each : (m : ℕ) → Contains lits m → (m ≡ get_or lits found.0 0) ⊎ (0 < mark_of e.marks (negation_of m)) = λ m c.
    let entry = index_of lits m c in
    let t : ((get_or lits entry.0 0 == get_or lits found.0 0) || is_false e.places.list (get_or lits entry.0 0)) ≡ true = list_all_at (λ (m : ℕ). m == get_or lits found.0 0 || is_false e.places.list m) lits entry.0 0 both.1 entry.1 in
    elim (or_cases (get_or lits entry.0 0 == get_or lits found.0 0) (is_false e.places.list (get_or lits entry.0 0)) t) [
      | inl same ↦ inl (sym entry.2 ∙ eqb-true (get_or lits entry.0 0) (get_or lits found.0 0) same)
      | inr off ↦ inr (mark-is_true e.marks e.places.list e.variables (negation_of m) s.marked (ap (is_false e.places.list) (sym entry.2) ∙ off))
    ] in
    elim f [
      | inl (l, c, pos) ↦ elim (each l c) [
        | inl same ↦ let z : mark_of e.marks l ≡ mark_of e.marks (get_or lits found.0 0) = ap (mark_of e.marks) same in absurd (omega arith)
        | inr off ↦ not_both e l s pos off
      ]
      | inr (a, b, ca, cb, ne, na, nb) ↦ elim (each a ca) [
        | inl same_a ↦ elim (each b cb) [
          | inl same_b ↦ ne (same_a ∙ sym same_b)
          | inr off ↦ absurd (omega arith)
        ]
        | inr off ↦ absurd (omega arith)
      ]
    ]

-- a test that cannot hold
never : (b : Bool) → (b ≡ true → ⊥) → b ≡ false
never true no_way = absurd (no_way refl)
never false no_way = refl

-- no clause is false or unit where propagation has come to its end
pub IsPropagated-done : (e : Engine) → IsEngine e → IsDone e → IsPropagated (trail_state e)
IsPropagated-done e s d = record {
  no_false = λ at live. never (is_false_clause e.places.list (record_at e.arena at).lits) (free_not_false e (record_at e.arena at).lits s (is_free e at s d live));
  no_unit = λ at live. never (is_unit_clause e.places.list (record_at e.arena at).lits) (free_not_unit e (record_at e.arena at).lits s (is_free e at s d live));
}
