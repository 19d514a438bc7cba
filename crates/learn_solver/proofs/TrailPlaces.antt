-- What the places of a trail say of literals, and which of them stay where a trail goes back.
use Rattle.std.proofs.Common.{◌≡◌, ◌≢◌, ◌∙◌, ◌⊎◌, ℕ, zero, suc, ◌+◌, ◌-◌, ◌<◌, ◌≤◌, Bool, true, false, cond, eqb, List, [], ◌∷◌, length, take, Option, Some, None, refl, sym, ap, subst, arith, inl, inr, length-take}
use Rattle.std.specs.Prelude.{◌==◌, ◌&&◌, not, nat_le, is_some}
use Rattle.std.specs.Option.{option_map_or, option_map}
use Rattle.std.specs.List.{position_from}
use Rattle.std.proofs.lemmas.List.{take-take, get_or-take}
use Rattle.std.proofs.lemmas.List.Sums.{sum_by-take-le, count_by_more_yes}
use Rattle.std.proofs.lemmas.Bool.{cases_Bool, cases_eq, cases_lt, eqb-true, eq-eqb, ne_eqb, and_parts, and_from, true≢false, false≢true}
use Rattle.std.proofs.lemmas.Bool.Decides.{nat_tests}
use Rattle.lits_core.specs.Literals.{variable_of, negation_of, is_negative}
use Rattle.lits_core.proofs.LiteralLemmas.{same_variable, variable_of-negation, negation-other}
use Rattle.watch_arena.specs.declared.places.Place.{Place}
use Rattle.watch_arena.specs.Places.{place_at, no_place, is_true, is_false, place_of, value_of, is_assumed, level_of}
use Rattle.watch_arena.specs.Trails.{TrailState, IsTrail, places_up_to}
use Rattle.watch_arena.proofs.ByIndex.{list_any_at, list_any_index, position_is, position_none}
use Rattle.watch_arena.proofs.Promises.{none_passes}
use Rattle.watch_arena.proofs.Pigeons.{at_most}
use Rattle.conflict_clause.specs.Taught.{level_in, is_decided}

-- a true literal has a place, and a literal with a place is true
pub true-index : (places : List Place) (lit : ℕ) → is_true places lit ≡ true → (p : ℕ) × (p < length places) × ((place_at places p).lit ≡ lit)
true-index places lit h =
    let found = list_any_index (λ (p : Place). p.lit == lit) places no_place h in
    (found.0, found.1, eqb-true (place_at places found.0).lit lit found.2)

pub true-at : (places : List Place) (p lit : ℕ) → p < length places → (place_at places p).lit ≡ lit → is_true places lit ≡ true
true-at places p lit lt is = list_any_at (λ (q : Place). q.lit == lit) places p no_place lt (eq-eqb (place_at places p).lit lit is)

-- the first places
pub place-take : (places : List Place) (n p : ℕ) → p < n → place_at (take n places) p ≡ place_at places p
place-take places n p lt = get_or-take n places p no_place lt

-- what is true by the first places is true
pub true-take : (places : List Place) (n lit : ℕ) → is_true (take n places) lit ≡ true → is_true places lit ≡ true
true-take places n lit h =
    let found = true-index (take n places) lit h in
    let below = found.1 in
    let size : length (take n places) ≡ _ = length-take n places in
    true-at places found.0 lit (omega arith) (ap (λ (p : Place). p.lit) (sym (place-take places n found.0 (omega arith))) ∙ found.2)

-- what is true by a place before a number is true by the first places
pub true-within : (places : List Place) (n p lit : ℕ) → p < n → p < length places → (place_at places p).lit ≡ lit → is_true (take n places) lit ≡ true
true-within places n p lit lt within is =
    let size : length (take n places) ≡ _ = length-take n places in
    true-at (take n places) p lit (omega arith) (ap (λ (q : Place). q.lit) (place-take places n p lt) ∙ is)

-- the place of a literal's variable
pub place_of-at : (t : TrailState) (p variable : ℕ) → IsTrail t → p < length t.places → variable_of (place_at t.places p).lit ≡ variable → place_of t.places variable ≡ Some p
place_of-at t p variable f lt is =
    position_is (λ (q : Place). variable_of q.lit == variable) t.places 0 p no_place lt
    (eq-eqb (variable_of (place_at t.places p).lit) variable is)
    (λ j below. ne_eqb (variable_of (place_at t.places j).lit) variable (λ e. f.variable_once j p below lt (e ∙ sym is)))
    ∙ ap Some (let z : 0 + p ≡ p = omega arith in z)

-- the first place that passes, where one does
position-found : (test : Place → Bool) (places : List Place) (from k : ℕ) → position_from test from places ≡ Some k → (from ≤ k) × (k < from + length places) × (test (place_at places (k - from)) ≡ true)
position-found test [] from k is = absurd (let clash : ◌≡◌ {A = Option ℕ} None (Some k) = is in cc)
position-found test (p ∷ places) from k is =
    elim (cases_Bool (test p)) [
      | inl on ↦
          let here : Some from ≡ Some k = rw on at is in
          let same : from ≡ k = cc in
          let index : k - from ≡ 0 = omega arith in
          (omega arith, omega arith, rw index on)
      | inr off ↦
          let rest = position-found test places (from + 1) k (rw off at is) in
          let low = rest.0 in let high = rest.1 in
          let index : k - from ≡ suc (k - (from + 1)) = omega arith in
          (omega arith, omega arith, rw index rest.2)
    ]

pub place_of-found : (places : List Place) (variable p : ℕ) → place_of places variable ≡ Some p → (p < length places) × (variable_of (place_at places p).lit ≡ variable)
place_of-found places variable p is =
    let found = position-found (λ (q : Place). variable_of q.lit == variable) places 0 p is in
    let high = found.1 in
    let index : p - 0 ≡ p = omega arith in
    (omega arith, eqb-true (variable_of (place_at places p).lit) variable (subst (λ (k : ℕ). (variable_of (place_at places k).lit == variable) ≡ true) index found.2))

-- a variable with no place
pub no_place-of : (places : List Place) (variable p : ℕ) → place_of places variable ≡ None → p < length places → variable_of (place_at places p).lit ≢ variable
no_place-of places variable p none lt e =
    absurd (false≢true (sym (none_passes (λ (q : Place). variable_of q.lit == variable) places 0 p none lt) ∙ eq-eqb (variable_of (place_at places p).lit) variable e))

pub place_of-none : (places : List Place) (variable : ℕ) → ((p : ℕ) → p < length places → variable_of (place_at places p).lit ≢ variable) → place_of places variable ≡ None
place_of-none places variable none =
    position_none (λ (q : Place). variable_of q.lit == variable) places 0 no_place (λ p lt. ne_eqb (variable_of (place_at places p).lit) variable (none p lt))

-- a place or none
pub place_of-cases : (o : Option ℕ) → ((p : ℕ) × (o ≡ Some p)) ⊎ (o ≡ None)
place_of-cases None = inr refl
place_of-cases (Some p) = inl (p, refl)

-- the level of a literal whose variable has a place
pub level-at : (t : TrailState) (p lit : ℕ) → IsTrail t → p < length t.places → variable_of (place_at t.places p).lit ≡ variable_of lit → level_in t.places lit ≡ (place_at t.places p).level
level-at t p lit f lt is =
    ap (λ (o : Option ℕ). option_map_or (λ k. (place_at t.places k).level) o 0) (place_of-at t p (variable_of lit) f lt is)

-- no two places have one literal or one the other's negation
pub same-place : (t : TrailState) (p q : ℕ) → IsTrail t → p < length t.places → q < length t.places → variable_of (place_at t.places p).lit ≡ variable_of (place_at t.places q).lit → p ≡ q
same-place t p q f lp lq e =
    elim (cases_eq p q) [
      | inl same ↦ same
      | inr ne ↦ elim (cases_lt p q) [
        | inl lt ↦ absurd (f.variable_once p q lt lq e)
        | inr ge ↦ absurd (f.variable_once q p (omega arith) lp (sym e))
      ]
    ]

pub not_both : (t : TrailState) (lit : ℕ) → IsTrail t → is_true t.places lit ≡ true → is_false t.places lit ≡ true → ⊥
not_both t lit f yes_true yes_false =
    let a = true-index t.places lit yes_true in
    let b = true-index t.places (negation_of lit) yes_false in
    let one : variable_of (place_at t.places a.0).lit ≡ variable_of (place_at t.places b.0).lit = ap variable_of a.2 ∙ sym (variable_of-negation lit) ∙ ap variable_of (sym b.2) in
    let same = same-place t a.0 b.0 f a.1 b.1 one in
    negation-other lit (sym b.2 ∙ ap (λ (k : ℕ). (place_at t.places k).lit) (sym same) ∙ a.2)

-- a literal whose variable has a place is true or false
pub true-or-false : (places : List Place) (p lit : ℕ) → p < length places → variable_of (place_at places p).lit ≡ variable_of lit → (is_true places lit ≡ true) ⊎ (is_false places lit ≡ true)
true-or-false places p lit lt is =
    elim (same_variable (place_at places p).lit lit is) [
      | inl same ↦ inl (true-at places p lit lt same)
      | inr other ↦ inr (true-at places p (negation_of lit) lt other)
    ]

-- levels never fall
pub levels-grow : (t : TrailState) (p q : ℕ) → IsTrail t → p ≤ q → q < length t.places → (place_at t.places p).level ≤ (place_at t.places q).level
levels-grow t p q f le lt =
    let a = f.levels p (omega arith) in
    let b = f.levels q lt in
    let cut : take (p + 1) (take (q + 1) t.places) ≡ take (p + 1) t.places = take-take (p + 1) (q + 1) t.places (omega arith) in
    let less : level_of (take (p + 1) (take (q + 1) t.places)) ≤ level_of (take (q + 1) t.places) = sum_by-take-le (λ (r : Place). cond (is_assumed r) 1 0) (take (q + 1) t.places) (p + 1) in
    let same : level_of (take (p + 1) (take (q + 1) t.places)) ≡ level_of (take (p + 1) t.places) = ap level_of cut in
    omega arith

-- the level of a place is at most that which all have come to
pub level-most : (t : TrailState) (p : ℕ) → IsTrail t → p < length t.places → (place_at t.places p).level ≤ t.level
level-most t p f lt =
    let a = f.levels p lt in
    let b = f.level in
    let less : level_of (take (p + 1) t.places) ≤ level_of t.places = sum_by-take-le (λ (r : Place). cond (is_assumed r) 1 0) t.places (p + 1) in
    omega arith

-- an assumed place begins its level
pub assumed-level : (t : TrailState) (p : ℕ) → IsTrail t → p < length t.places → is_assumed (place_at t.places p) ≡ true → (place_at t.places p).level ≡ level_of (take p t.places) + 1
assumed-level t p f lt a = f.levels p lt ∙ count_by_more_yes is_assumed t.places p no_place lt a

-- a place before an assumed one has a lower level
pub before-assumed : (t : TrailState) (p q : ℕ) → IsTrail t → p < q → q < length t.places → is_assumed (place_at t.places q) ≡ true → (place_at t.places p).level < (place_at t.places q).level
before-assumed t p q f lt within a =
    let here = assumed-level t q f within a in
    let there = f.levels p (omega arith) in
    let cut : take (p + 1) (take q t.places) ≡ take (p + 1) t.places = take-take (p + 1) q t.places (omega arith) in
    let less : level_of (take (p + 1) (take q t.places)) ≤ level_of (take q t.places) = sum_by-take-le (λ (r : Place). cond (is_assumed r) 1 0) (take q t.places) (p + 1) in
    let same : level_of (take (p + 1) (take q t.places)) ≡ level_of (take (p + 1) t.places) = ap level_of cut in
    omega arith

-- no level has two assumed places
pub assumed-once : (t : TrailState) (p q : ℕ) → IsTrail t → p < length t.places → q < length t.places → is_assumed (place_at t.places p) ≡ true → is_assumed (place_at t.places q) ≡ true → (place_at t.places p).level ≡ (place_at t.places q).level → p ≡ q
assumed-once t p q f lp lq ap_ aq e =
    elim (cases_eq p q) [
      | inl same ↦ same
      | inr ne ↦ elim (cases_lt p q) [
        | inl lt ↦ let low = before-assumed t p q f lt lq aq in absurd (omega arith)
        | inr ge ↦ let low = before-assumed t q p f (omega arith) lp ap_ in absurd (omega arith)
      ]
    ]

-- the places up to a level are the first ones
pub record IsLevelEnd (places : List Place) (level n : ℕ) : Type 0 where
  pub within : n ≤ length places
  pub same : places_up_to places level ≡ take n places
  pub up_to : (p : ℕ) → p < n → (place_at places p).level ≤ level
  pub past : (p : ℕ) → n ≤ p → p < length places → level < (place_at places p).level

none-stay : (places : List Place) (level : ℕ) → ((p : ℕ) → p < length places → level < (place_at places p).level) → places_up_to places level ≡ []
none-stay [] level above = refl
none-stay (q ∷ places) level above =
    let off : nat_le q.level level ≡ false = (let high = above 0 (omega arith) in grind (arith, nat_tests)) in
    rw off (none-stay places level (λ p lt. above (suc p) (omega arith)))

up-to-next : (q : Place) (places : List Place) (level n p : ℕ) → q.level ≤ level → ((p : ℕ) → p < n → (place_at places p).level ≤ level) → p < suc n → (place_at (q ∷ places) p).level ≤ level
up-to-next q places level n zero low rest lt = low
up-to-next q places level n (suc p) low rest lt = rest p (omega arith)

past-next : (q : Place) (places : List Place) (level n p : ℕ) → ((p : ℕ) → n ≤ p → p < length places → level < (place_at places p).level) → suc n ≤ p → p < length (q ∷ places) → level < (place_at (q ∷ places) p).level
past-next q places level n zero rest le lt = absurd (omega arith)
past-next q places level n (suc p) rest le lt = rest p (omega arith) (omega arith)

cut-rising : (places : List Place) (level : ℕ) → ((p q : ℕ) → p ≤ q → q < length places → (place_at places p).level ≤ (place_at places q).level) → (n : ℕ) × IsLevelEnd places level n
cut-rising [] level rising = (0, record { within = omega arith; same = refl; up_to = λ p lt. absurd (omega arith); past = λ p le lt. absurd (omega arith) })
cut-rising (q ∷ places) level rising =
    elim (cases_lt level q.level) [
      | inl high ↦
          let above : (p : ℕ) → p < length (q ∷ places) → level < (place_at (q ∷ places) p).level = λ p lt. let up = rising 0 p (omega arith) lt in omega arith in
          (0, record { within = omega arith; same = none-stay (q ∷ places) level above; up_to = λ p lt. absurd (omega arith); past = λ p le lt. above p lt })
      | inr low ↦
          let on : nat_le q.level level ≡ true = grind (arith, nat_tests) in
          let rest = cut-rising places level (λ p r le lt. rising (suc p) (suc r) (omega arith) (omega arith)) in
          let cut = rest.1 in
          let within = cut.within in (
            suc rest.0,
            record {
              within = omega arith;
              same = rw on (ap (λ (ps : List Place). q ∷ ps) cut.same);
              up_to = λ p lt. up-to-next q places level rest.0 p low cut.up_to lt;
              past = λ p le lt. past-next q places level rest.0 p cut.past le lt;
            },
          )
    ]

pub cut-at : (t : TrailState) (level : ℕ) → IsTrail t → (n : ℕ) × IsLevelEnd t.places level n
cut-at t level f = cut-rising t.places level (λ p q le lt. levels-grow t p q f le lt)

-- a literal is true exactly where it is that of its variable's place
pub true-place : (t : TrailState) (p lit : ℕ) → IsTrail t → p < length t.places → variable_of (place_at t.places p).lit ≡ variable_of lit → eqb (place_at t.places p).lit lit ≡ is_true t.places lit
true-place t p lit f lt is =
    elim (cases_Bool (is_true t.places lit)) [
      | inl on ↦
          let found = true-index t.places lit on in
          let same = same-place t found.0 p f found.1 lt (ap variable_of found.2 ∙ sym is) in
          eq-eqb (place_at t.places p).lit lit (ap (λ (k : ℕ). (place_at t.places k).lit) (sym same) ∙ found.2) ∙ sym on
      | inr off ↦ ne_eqb (place_at t.places p).lit lit (λ e. absurd (true≢false (sym (true-at t.places p lit lt e) ∙ off))) ∙ sym off
    ]

-- and false where its variable has no place
pub not_true-unassigned : (places : List Place) (lit : ℕ) → place_of places (variable_of lit) ≡ None → is_true places lit ≡ false
not_true-unassigned places lit none =
    elim (cases_Bool (is_true places lit)) [
      | inl on ↦ let found = true-index places lit on in absurd (no_place-of places (variable_of lit) found.0 none found.1 (ap variable_of found.2))
      | inr off ↦ off
    ]

-- a literal was assumed where a place has it that was
pub decided-at : (places : List Place) (p lit : ℕ) → p < length places → (place_at places p).lit ≡ lit → is_assumed (place_at places p) ≡ true → is_decided places lit ≡ true
decided-at places p lit lt is on =
    list_any_at (λ (q : Place). (q.lit == lit) && is_assumed q) places p no_place lt (and_from ((place_at places p).lit == lit) (is_assumed (place_at places p)) (eq-eqb (place_at places p).lit lit is) on)

pub decided-index : (places : List Place) (lit : ℕ) → is_decided places lit ≡ true → (p : ℕ) × (p < length places) × ((place_at places p).lit ≡ lit) × (is_assumed (place_at places p) ≡ true)
decided-index places lit h =
    let found = list_any_index (λ (q : Place). (q.lit == lit) && is_assumed q) places no_place h in
    let both = and_parts ((place_at places found.0).lit == lit) (is_assumed (place_at places found.0)) found.2 in
    (found.0, found.1, eqb-true (place_at places found.0).lit lit both.0, both.1)

-- the place of a variable that has a value
pub value-some : (places : List Place) (variable : ℕ) → is_some (value_of places variable) ≡ true → (p : ℕ) × (p < length places) × (variable_of (place_at places p).lit ≡ variable)
value-some places variable h =
    elim (place_of-cases (place_of places variable)) [
      | inl (p, is) ↦ let found = place_of-found places variable p is in (p, found.0, found.1)
      | inr none ↦ absurd (false≢true (ap (λ (o : Option ℕ). is_some (option_map (λ p. not (is_negative (place_at places p).lit)) o)) (sym none) ∙ h))
    ]

-- there are no more places than variables
pub places-few : (t : TrailState) → IsTrail t → length t.places ≤ t.variables
places-few t f = at_most t.variables (length t.places) (λ p. variable_of (place_at t.places p).lit) f.places_in_range f.variable_once
