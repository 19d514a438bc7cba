-- What a trail says of the places of its literals.
use Rattle.std.proofs.Common.{◌≡◌, ◌∙◌, ℕ, zero, suc, ◌+◌, ◌-◌, ◌<◌, ◌≤◌, ◌==◌, Bool, true, cond, List, [], ◌∷◌, length, take, Option, Some, None, refl, sym, ap, subst, arith, inl, inr, length-take, get_or-take}
use Rattle.std.specs.Prelude.{is_none, ◌&&◌}
use Rattle.std.specs.List.{Contains, position_from}
use Rattle.std.proofs.lemmas.Bool.{cases_lt}
use Rattle.std.proofs.lemmas.List.{take_all}
use Rattle.std.proofs.lemmas.List.Sums.{count_by_more_no, count_by_more_yes}
use borrow.Author.Tests.{eqb-true, eq-eqb, ne_eqb}
use Rattle.lits_core.specs.Literals.{negation_of, variable_of}
use Rattle.lits_core.proofs.LiteralLemmas.{variable_of-negation}
use Rattle.watch_arena.specs.declared.places.Place.{Place}
use Rattle.watch_arena.specs.Places.{place_at, no_place, place_of, is_false, is_false_clause, is_assumed, level_of}
use Rattle.watch_arena.specs.Trails.{TrailState, IsTrail}
use Rattle.watch_arena.proofs.ByIndex.{cases_bool, and_from, list_any_at, list_any_index, list_all_at, position_is}
use Rattle.watch_arena.proofs.WatchedPair.{index_of}
use Rattle.conflict_clause.specs.Taught.{level_in, is_decided}

-- a literal that is false is so by the place of its negation
pub false_at : (places : List Place) (lit : ℕ) → is_false places lit ≡ true → (q : ℕ) × (q < length places) × ((place_at places q).lit ≡ negation_of lit)
false_at places lit h =
    let found = list_any_index (λ (p : Place). p.lit == negation_of lit) places no_place h in
    (found.0, found.1, eqb-true (place_at places found.0).lit (negation_of lit) found.2)

-- by the first places, by one of them
pub false_below : (places : List Place) (p lit : ℕ) → p ≤ length places → is_false (take p places) lit ≡ true → (q : ℕ) × (q < p) × ((place_at places q).lit ≡ negation_of lit)
false_below places p lit le h =
    let found = false_at (take p places) lit h in
    let lt = found.1 in
    let size : length (take p places) ≡ p = simp length-take (omega arith) in
    let below : found.0 < p = omega arith in
    (found.0, below, ap (λ (x : Place). x.lit) (sym (get_or-take p places found.0 no_place below)) ∙ found.2)

-- and the other way
pub false_from : (places : List Place) (q lit : ℕ) → q < length places → (place_at places q).lit ≡ negation_of lit → is_false places lit ≡ true
false_from places q lit lt is =
    list_any_at (λ (p : Place). p.lit == negation_of lit) places q no_place lt (eq-eqb (place_at places q).lit (negation_of lit) is)

-- each literal of a false clause is false
pub each_false : (places : List Place) (lits : List ℕ) (lit : ℕ) → is_false_clause places lits ≡ true → Contains lits lit → is_false places lit ≡ true
each_false places lits lit h c =
    let entry = index_of lits lit c in
    ap (is_false places) (sym entry.2) ∙ list_all_at (is_false places) lits entry.0 0 h entry.1

-- the place of a variable is the one with a literal of it
pub place_of-is : (t : TrailState) (q variable : ℕ) → IsTrail t → q < length t.places → variable_of (place_at t.places q).lit ≡ variable → place_of t.places variable ≡ Some q
place_of-is t q variable trail lt is =
    position_is (λ (p : Place). variable_of p.lit == variable) t.places 0 q no_place lt
    (eq-eqb (variable_of (place_at t.places q).lit) variable is)
    (λ j below. ne_eqb (variable_of (place_at t.places j).lit) variable (λ z. trail.variable_once j q below lt (z ∙ sym is)))
    ∙ ap Some (let z : 0 + q ≡ q = omega arith in z)

-- one variable has one place
pub place-once : (t : TrailState) (p q : ℕ) → IsTrail t → p < length t.places → q < length t.places → variable_of (place_at t.places p).lit ≡ variable_of (place_at t.places q).lit → p ≡ q
place-once t p q trail lp lq same =
    elim (cases_lt p q) [
      | inl lt ↦ absurd (trail.variable_once p q lt lq same)
      | inr ge ↦ elim (cases_lt q p) [
        | inl lt ↦ absurd (trail.variable_once q p lt lp (sym same))
        | inr le ↦ omega arith
      ]
    ]

-- the place of a false literal's variable
pub place_of-false : (t : TrailState) (lit : ℕ) (found : Option ℕ) → IsTrail t → is_false t.places lit ≡ true → found ≡ place_of t.places (variable_of lit) → (q : ℕ) × (found ≡ Some q) × (q < length t.places) × ((place_at t.places q).lit ≡ negation_of lit)
place_of-false t lit found trail off is =
    let at = false_at t.places lit off in
    (at.0, is ∙ place_of-is t at.0 (variable_of lit) trail at.1 (ap variable_of at.2 ∙ variable_of-negation lit), at.1, at.2)

-- the level of a literal that is false by a place
pub level_in-place : (t : TrailState) (q lit : ℕ) → IsTrail t → q < length t.places → (place_at t.places q).lit ≡ negation_of lit → level_in t.places lit ≡ (place_at t.places q).level
level_in-place t q lit trail lt is =
    let at : place_of t.places (variable_of lit) ≡ Some q = place_of-is t q (variable_of lit) trail lt (ap variable_of is ∙ variable_of-negation lit) in
    rw at refl

-- a literal that is false has a variable of the trail
pub false_in_range : (t : TrailState) (lit : ℕ) → IsTrail t → is_false t.places lit ≡ true → variable_of lit < t.variables
false_in_range t lit trail off =
    let at = false_at t.places lit off in
    let lt = trail.places_in_range at.0 at.1 in
    subst (λ (v : ℕ). v < t.variables) (ap variable_of at.2 ∙ variable_of-negation lit) lt

-- more places have no fewer assumed ones
pub level_of-more : (places : List Place) (n k : ℕ) → n + k ≤ length places → level_of (take n places) ≤ level_of (take (n + k) places)
level_of-more places n zero le = let z : n + zero ≡ n = omega arith in let same = ap (λ (m : ℕ). level_of (take m places)) z in omega arith
level_of-more places n (suc k) le =
    let rest = level_of-more places n k (omega arith) in
    let z : n + suc k ≡ (n + k) + 1 = omega arith in
    let same = ap (λ (m : ℕ). level_of (take m places)) z in
    elim (cases_bool (is_assumed (place_at places (n + k)))) [
      | inl on ↦ let more = count_by_more_yes is_assumed places (n + k) no_place (omega arith) on in omega arith
      | inr off ↦ let more = count_by_more_no is_assumed places (n + k) no_place (omega arith) off in omega arith
    ]

-- later places that were assumed have higher levels, and none has a lower one
pub level-later : (t : TrailState) (p q : ℕ) → IsTrail t → p < q → q < length t.places → (place_at t.places q).reason ≡ None → (place_at t.places p).level < (place_at t.places q).level
level-later t p q trail lt within assumed =
    let sum : (p + 1) + (q - (p + 1)) ≡ q = omega arith in
    let most = level_of-more t.places (p + 1) (q - (p + 1)) (omega arith) in
    let same = ap (λ (m : ℕ). level_of (take m t.places)) sum in
    let more = count_by_more_yes is_assumed t.places q no_place within (ap is_none assumed) in
    let at_p = trail.levels p (omega arith) in
    let at_q = trail.levels q within in
    omega arith

pub level-rises : (t : TrailState) (p q : ℕ) → IsTrail t → p ≤ q → q < length t.places → (place_at t.places p).level ≤ (place_at t.places q).level
level-rises t p q trail le within =
    let sum : (p + 1) + (q - p) ≡ q + 1 = omega arith in
    let most = level_of-more t.places (p + 1) (q - p) (omega arith) in
    let same = ap (λ (m : ℕ). level_of (take m t.places)) sum in
    let at_p = trail.levels p (omega arith) in
    let at_q = trail.levels q within in
    omega arith

-- no place has a level above that of the trail
pub level-most : (t : TrailState) (p : ℕ) → IsTrail t → p < length t.places → (place_at t.places p).level ≤ t.level
level-most t p trail lt =
    let sum : (p + 1) + (length t.places - (p + 1)) ≡ length t.places = omega arith in
    let most = level_of-more t.places (p + 1) (length t.places - (p + 1)) (omega arith) in
    let same = ap (λ (m : ℕ). level_of (take m t.places)) sum in
    let all = ap level_of (take_all (length t.places) t.places (omega arith)) in
    let at_p = trail.levels p lt in
    let top = trail.level in
    omega arith

-- the literal of a place with no reason was assumed
pub is_decided-at : (places : List Place) (q lit : ℕ) → q < length places → (place_at places q).reason ≡ None → (place_at places q).lit ≡ lit → is_decided places lit ≡ true
is_decided-at places q lit lt assumed is =
    list_any_at (λ (p : Place). (p.lit == lit) && is_assumed p) places q no_place lt
    (and_from ((place_at places q).lit == lit) (is_assumed (place_at places q)) (eq-eqb (place_at places q).lit lit is) (ap is_none assumed))

pub false-some : (t : TrailState) (lit place : ℕ) → IsTrail t → is_false t.places lit ≡ true → Some place ≡ place_of t.places (variable_of lit) → (place < length t.places) × ((place_at t.places place).lit ≡ negation_of lit)
false-some t lit place trail off is =
    let at = place_of-false t lit (Some place) trail off is in
    let same : place ≡ at.0 = (let both : ◌≡◌ {A = Option ℕ} (Some place) (Some at.0) = at.1 in cc) in
    let lt = at.2 in
    (omega arith, ap (λ (n : ℕ). (place_at t.places n).lit) same ∙ at.3)

pub false-none : (t : TrailState) (lit : ℕ) → IsTrail t → is_false t.places lit ≡ true → None ≡ place_of t.places (variable_of lit) → ⊥
false-none t lit trail off is =
    let at = place_of-false t lit None trail off is in
    let both : ◌≡◌ {A = Option ℕ} None (Some at.0) = at.1 in cc

-- what a search of a list finds is within it
position_within : {X : Type 0} (test : X → Bool) → (xs : List X) (from k : ℕ) → Some k ≡ position_from test from xs → k < from + length xs
position_within test [] from k is = let none : ◌≡◌ {A = Option ℕ} (Some k) None = is in cc
position_within test (x ∷ xs) from k is =
    elim (cases_bool (test x)) [
      | inl on ↦
          let here : ◌≡◌ {A = Option ℕ} (Some k) (Some from) = is ∙ ap (λ (b : Bool). cond b (Some from) (position_from test (from + 1) xs)) on in
          let same : k ≡ from = cc in omega arith
      | inr off ↦
          let rest = position_within test xs (from + 1) k (is ∙ ap (λ (b : Bool). cond b (Some from) (position_from test (from + 1) xs)) off) in omega arith
    ]

pub place_of-within : (places : List Place) (variable place : ℕ) → Some place ≡ place_of places variable → place < length places
place_of-within places variable place is = let lt = position_within (λ (p : Place). variable_of p.lit == variable) places 0 place is in omega arith
