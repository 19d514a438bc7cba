-- Marks as places come and go.
use Rattle.std.proofs.Common.{◌≡◌, ◌≢◌, ◌∙◌, ℕ, ◌+◌, ◌-◌, ◌*◌, ◌<◌, ◌≤◌, List, [], ◌∷◌, ◌++◌, length, set, take, refl, sym, ap, arith, inl, inr, length-set, length-take, get_or-set_same, get_or-set_other, get_or-take}
use Rattle.std.proofs.lemmas.Bool.{cases_eq, cases_lt}
use Rattle.std.proofs.lemmas.List.{get_or_append_left, get_or_push, get_or_past, length_push}
use Rattle.lits_core.specs.Literals.{negation_of}
use Rattle.lits_core.proofs.LiteralLemmas.{negation-other, negation-negation}
use Rattle.watch_arena.specs.declared.places.Place.{Place}
use Rattle.watch_arena.specs.Places.{place_at, no_place}
use Rattle.watch_arena.specs.Engines.{mark_of, TrueBelow, AreMarked}

-- new marks are of places from a number on, and all other marks stay
pub record MarksGrow (old new : List ℕ) (count : ℕ) : Type 0 where
  pub kept : (lit : ℕ) → 0 < mark_of old lit → mark_of new lit ≡ mark_of old lit
  pub only : (lit : ℕ) → 0 < mark_of new lit → mark_of new lit ≤ count → mark_of new lit ≡ mark_of old lit

-- a literal that had no mark gets one
pub MarksGrow-set : (marks : List ℕ) (lit count : ℕ) → lit < length marks → mark_of marks lit ≡ 0 → MarksGrow marks (set marks lit (count + 1)) count
MarksGrow-set marks lit count lt none = record {
  kept = λ l pos. elim (cases_eq l lit) [
    | inl e ↦ absurd (let m : mark_of marks l ≡ 0 = ap (mark_of marks) e ∙ none in omega arith)
    | inr ne ↦ get_or-set_other marks lit l (count + 1) 0 ne
  ];
  only = λ l pos le. elim (cases_eq l lit) [
    | inl e ↦ absurd (let m : mark_of (set marks lit (count + 1)) l ≡ count + 1 = ap (mark_of (set marks lit (count + 1))) e ∙ get_or-set_same marks lit (count + 1) 0 lt in omega arith)
    | inr ne ↦ get_or-set_other marks lit l (count + 1) 0 ne
  ];
}

-- the last place's mark goes: so it had come
pub MarksGrow-unset : (marks : List ℕ) (lit count : ℕ) → lit < length marks → mark_of marks lit ≡ count + 1 → MarksGrow (set marks lit 0) marks count
MarksGrow-unset marks lit count lt last = record {
  kept = λ l pos. elim (cases_eq l lit) [
    | inl e ↦ absurd (let m : mark_of (set marks lit 0) l ≡ 0 = ap (mark_of (set marks lit 0)) e ∙ get_or-set_same marks lit 0 0 lt in omega arith)
    | inr ne ↦ sym (get_or-set_other marks lit l 0 0 ne)
  ];
  only = λ l pos le. elim (cases_eq l lit) [
    | inl e ↦ absurd (let m : mark_of marks l ≡ count + 1 = ap (mark_of marks) e ∙ last in omega arith)
    | inr ne ↦ sym (get_or-set_other marks lit l 0 0 ne)
  ];
}

-- a literal that is true stays so
pub TrueBelow-grown : (old new : List ℕ) (count n more lit : ℕ) → MarksGrow old new count → n ≤ more → TrueBelow old n lit → TrueBelow new more lit
TrueBelow-grown old new count n more lit g le t =
    let same = g.kept lit t.0 in
    let pos = t.0 in let below = t.1 in (omega arith, omega arith)

-- and was so, by a place that was there
pub TrueBelow-only : (old new : List ℕ) (count n lit : ℕ) → MarksGrow old new count → n ≤ count → TrueBelow new n lit → TrueBelow old n lit
TrueBelow-only old new count n lit g le t =
    let below = t.1 in
    let same = g.only lit t.0 (omega arith) in
    let pos = t.0 in (omega arith, omega arith)

-- the place before a new one
pub place_at-push : (places : List Place) (new : Place) (p : ℕ) → p < length places → place_at (places ++ new ∷ []) p ≡ place_at places p
place_at-push places new p lt = get_or_append_left places (new ∷ []) no_place p lt

-- the new one
pub place_at-new : (places : List Place) (new : Place) → place_at (places ++ new ∷ []) (length places) ≡ new
place_at-new places new = get_or_push places new no_place (length places) refl

-- a literal is not true where it has no place
pub mark-in_range : (marks : List ℕ) (lit : ℕ) → 0 < mark_of marks lit → lit < length marks
mark-in_range marks lit pos = elim (cases_lt lit (length marks)) [
  | inl lt ↦ lt
  | inr ge ↦ absurd (let none = get_or_past marks lit 0 ge in omega arith)
]

-- one more place
pub AreMarked-push : (marks : List ℕ) (places : List Place) (variables : ℕ) (new : Place) → AreMarked marks places variables → new.lit < 2 * variables → mark_of marks new.lit ≡ 0 → mark_of marks (negation_of new.lit) ≡ 0 → AreMarked (set marks new.lit (length places + 1)) (places ++ new ∷ []) variables
AreMarked-push marks places variables new m range none other =
    let size = m.size in
    let lt : new.lit < length marks = omega arith in
    let here : mark_of (set marks new.lit (length places + 1)) new.lit ≡ length places + 1 = get_or-set_same marks new.lit (length places + 1) 0 lt in
    let count : length (places ++ new ∷ []) ≡ length places + 1 = length_push places new in
    record {
      size = length-set marks new.lit (length places + 1) ∙ m.size;
      back = λ p below. elim (cases_lt p (length places)) [
        | inl old ↦
            let is : (place_at (places ++ new ∷ []) p).lit ≡ (place_at places p).lit = ap (λ (q : Place). q.lit) (place_at-push places new p old) in
            let was = m.back p old in
            let ne : (place_at places p).lit ≢ new.lit = λ e. let zero_too : mark_of marks (place_at places p).lit ≡ 0 = ap (mark_of marks) e ∙ none in absurd (omega arith) in
            ap (mark_of (set marks new.lit (length places + 1))) is ∙ get_or-set_other marks new.lit (place_at places p).lit (length places + 1) 0 ne ∙ was
        | inr late ↦
            let e : p ≡ length places = omega arith in
            let is : (place_at (places ++ new ∷ []) p).lit ≡ new.lit = ap (λ (q : Place). q.lit) (ap (place_at (places ++ new ∷ [])) e ∙ place_at-new places new) in
            ap (mark_of (set marks new.lit (length places + 1))) is ∙ here ∙ ap (λ (n : ℕ). n + 1) (sym e)
      ];
      forth = λ l pos. elim (cases_eq l new.lit) [
        | inl e ↦
            let is : mark_of (set marks new.lit (length places + 1)) l ≡ length places + 1 = ap (mark_of (set marks new.lit (length places + 1))) e ∙ here in
            let back : mark_of (set marks new.lit (length places + 1)) l - 1 ≡ length places = omega arith in
            (omega arith, ap (λ (n : ℕ). (place_at (places ++ new ∷ []) n).lit) back ∙ ap (λ (q : Place). q.lit) (place_at-new places new) ∙ sym e)
        | inr ne ↦
            let same : mark_of (set marks new.lit (length places + 1)) l ≡ mark_of marks l = get_or-set_other marks new.lit l (length places + 1) 0 ne in
            let was = m.forth l (omega arith) in
            let below = was.0 in
            let index : mark_of (set marks new.lit (length places + 1)) l - 1 ≡ mark_of marks l - 1 = omega arith in
            (omega arith, ap (λ (n : ℕ). (place_at (places ++ new ∷ []) n).lit) index ∙ ap (λ (q : Place). q.lit) (place_at-push places new (mark_of marks l - 1) (omega arith)) ∙ was.1)
      ];
      apart = λ l pos. elim (cases_eq l new.lit) [
        | inl e ↦
            let ne : negation_of new.lit ≢ new.lit = negation-other new.lit in
            ap (λ (k : ℕ). mark_of (set marks new.lit (length places + 1)) (negation_of k)) e ∙ get_or-set_other marks new.lit (negation_of new.lit) (length places + 1) 0 ne ∙ other
        | inr ne ↦
            let same : mark_of (set marks new.lit (length places + 1)) l ≡ mark_of marks l = get_or-set_other marks new.lit l (length places + 1) 0 ne in
            let differs : negation_of l ≢ new.lit = λ e.
            let back : l ≡ negation_of new.lit = sym (negation-negation l) ∙ ap negation_of e in
            let zero_too : mark_of marks l ≡ 0 = ap (mark_of marks) back ∙ other in absurd (omega arith) in
            get_or-set_other marks new.lit (negation_of l) (length places + 1) 0 differs ∙ m.apart l (omega arith)
      ];
    }

-- one place less
pub AreMarked-pop : (marks : List ℕ) (places : List Place) (variables lit : ℕ) → AreMarked marks places variables → 0 < length places → (place_at places (length places - 1)).lit ≡ lit → AreMarked (set marks lit 0) (take (length places - 1) places) variables
AreMarked-pop marks places variables lit m some last =
    let at_last : mark_of marks lit ≡ length places = (let was = m.back (length places - 1) (omega arith) in let same : mark_of marks (place_at places (length places - 1)).lit ≡ mark_of marks lit = ap (mark_of marks) last in omega arith) in
    let lt : lit < length marks = mark-in_range marks lit (omega arith) in
    let count : length (take (length places - 1) places) ≡ length places - 1 = simp length-take (omega arith) in
    let gone : mark_of (set marks lit 0) lit ≡ 0 = get_or-set_same marks lit 0 0 lt in
    record {
      size = length-set marks lit 0 ∙ m.size;
      back = λ p below.
          let is : (place_at (take (length places - 1) places) p).lit ≡ (place_at places p).lit = ap (λ (q : Place). q.lit) (get_or-take (length places - 1) places p no_place (omega arith)) in
          let was = m.back p (omega arith) in
          let ne : (place_at places p).lit ≢ lit = λ e. let same : mark_of marks (place_at places p).lit ≡ mark_of marks lit = ap (mark_of marks) e in absurd (omega arith) in
          ap (mark_of (set marks lit 0)) is ∙ get_or-set_other marks lit (place_at places p).lit 0 0 ne ∙ was;
      forth = λ l pos. elim (cases_eq l lit) [
        | inl e ↦ absurd (let is : mark_of (set marks lit 0) l ≡ 0 = ap (mark_of (set marks lit 0)) e ∙ gone in omega arith)
        | inr ne ↦
            let same : mark_of (set marks lit 0) l ≡ mark_of marks l = get_or-set_other marks lit l 0 0 ne in
            let was = m.forth l (omega arith) in
            let below = was.0 in
            let not_last : mark_of marks l ≢ length places = λ e.
            let index : mark_of marks l - 1 ≡ length places - 1 = omega arith in
            let is : l ≡ lit = sym was.1 ∙ ap (λ (n : ℕ). (place_at places n).lit) index ∙ last in ne is in
            let index : mark_of (set marks lit 0) l - 1 ≡ mark_of marks l - 1 = omega arith in
            (omega arith, ap (λ (n : ℕ). (place_at (take (length places - 1) places) n).lit) index ∙ ap (λ (q : Place). q.lit) (get_or-take (length places - 1) places (mark_of marks l - 1) no_place (omega arith)) ∙ was.1)
      ];
      apart = λ l pos. elim (cases_eq l lit) [
        | inl e ↦ absurd (let is : mark_of (set marks lit 0) l ≡ 0 = ap (mark_of (set marks lit 0)) e ∙ gone in omega arith)
        | inr ne ↦
            let same : mark_of (set marks lit 0) l ≡ mark_of marks l = get_or-set_other marks lit l 0 0 ne in
            let none = m.apart l (omega arith) in
            elim (cases_eq (negation_of l) lit) [
              | inl e ↦ ap (mark_of (set marks lit 0)) e ∙ gone
              | inr differs ↦ get_or-set_other marks lit (negation_of l) 0 0 differs ∙ none
            ]
      ];
    }
