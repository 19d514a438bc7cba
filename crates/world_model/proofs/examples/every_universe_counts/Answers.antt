use Rattle.std.proofs.Common.{◌≡◌, ◌≢◌, ℕ, zero, suc, ◌<◌, ◌≤◌, Bool, true, false, ◌&&◌, not, List, [], ◌∷◌, length, get_or, refl, sym, ap, ◌∙◌, IsTrue, arith, cond, inl, inr}
use Rattle.std.specs.Prelude.{nat_lt, ◌==◌}
use Rattle.std.specs.List.{list_all}
use Rattle.std.proofs.lemmas.Bool.{and_parts, ltb-true, cases_Bool, false≢true, eq-eqb}
use Rattle.rcc5_core.specs.declared.Rel.{Rel}
use Rattle.rcc5_core.specs.declared.Rel.TheVariants.{Equals, Includes, IncludedIn, Overlaps, Disjoint}
use Rattle.rcc5_core.specs.Relation.{relation_of, is_in, is_subset, have_common}
use Rattle.world_model.specs.Family.{Family, meets, set_of, fits_concepts, none_empty}
use Rattle.world_model.specs.Examples.{one_each, all_on}
use Rattle.world_model.proofs.Members.{In, here, there, all_at, any_at, any_from, Found}
use Rattle.world_model.proofs.examples.every_universe_counts.Goals as goal

-- two sets overlap by the tests of subsets and of a common element
by_tests : (b c d : Bool) → cond (b && d) Equals (cond b IncludedIn (cond d Includes (cond (not c) Disjoint Overlaps))) ≡ Overlaps →
    (b ≡ false) × (c ≡ true) × (d ≡ false)
by_tests true c true h = cc
by_tests true c false h = cc
by_tests false c true h = cc
by_tests false true false h = (refl, refl, refl)
by_tests false false false h = cc

-- where not all pass a test, one fails it
one_fails : (test : ℕ → Bool) (xs : List ℕ) → list_all test xs ≡ false → Found (λ x. not (test x)) xs
one_fails test [] h = absurd (false≢true (sym h))
one_fails test (x ∷ xs) h = elim (cases_Bool (test x)) [
  | inl passes ↦
      let rest : list_all test xs ≡ false = (rw passes at h) in
      let f : Found (λ y. not (test y)) xs = one_fails test xs rest in record { item = f.item; member = there f.member; passes = f.passes }
  | inr fails ↦ record { item = x; member = here refl; passes = rw fails refl }
]

-- one of a list is in the set that the list gives
in_set : (x : ℕ) (xs : List ℕ) → In x xs → is_in x xs ≡ true
in_set x xs i = any_from (λ y. x == y) i (eq-eqb x x refl)

-- a number in a set is not one that the set lacks
apart : (x z : ℕ) (ys : List ℕ) → not (is_in x ys) ≡ true → is_in z ys ≡ true → x ≢ z
apart x z ys lacks has e =
    let same : is_in z ys ≡ is_in x ys = ap (λ w. is_in w ys) (sym e) in
    let now : is_in x ys ≡ true = sym same ∙ has in
    false≢true (rw now at lacks)

-- sets that overlap have three different elements
three_elements : (u : ℕ) (xs ys : List ℕ) → list_all (λ x. nat_lt x u) xs ≡ true → list_all (λ y. nat_lt y u) ys ≡ true →
    relation_of xs ys ≡ Overlaps → 3 ≤ u
three_elements u xs ys left right h =
    let tests = by_tests (is_subset xs ys) (have_common xs ys) (is_subset ys xs) h in
    let x : Found (λ x. not (is_in x ys)) xs = one_fails (λ x. is_in x ys) xs tests.0 in
    let z : Found (λ z. is_in z ys) xs = any_at (λ z. is_in z ys) xs tests.1 in
    let y : Found (λ y. not (is_in y xs)) ys = one_fails (λ y. is_in y xs) ys tests.2 in
    let x_below : x.item < u = ltb-true x.item u (all_at (λ x. nat_lt x u) left x.member) in
    let y_below : y.item < u = ltb-true y.item u (all_at (λ y. nat_lt y u) right y.member) in
    let z_below : z.item < u = ltb-true z.item u (all_at (λ x. nat_lt x u) left z.member) in
    let xz : x.item ≢ z.item = apart x.item z.item ys x.passes z.passes in
    let yz : y.item ≢ z.item = apart y.item z.item xs y.passes (in_set z.item xs z.member) in
    let yx : y.item ≢ x.item = apart y.item x.item xs y.passes (in_set x.item xs x.member) in
    omega arith

-- each set of a family is within the universe
within : (u : ℕ) (sets : List (List ℕ)) (c : ℕ) → list_all (list_all (λ x. nat_lt x u)) sets ≡ true → list_all (λ x. nat_lt x u) (get_or sets c []) ≡ true
within u [] c h = refl
within u (xs ∷ sets) zero h = (and_parts (list_all (λ x. nat_lt x u) xs) (list_all (list_all (λ x. nat_lt x u)) sets) h).0
within u (xs ∷ sets) (suc c) h = within u sets c (and_parts (list_all (λ x. nat_lt x u) xs) (list_all (list_all (λ x. nat_lt x u)) sets) h).1

-- a set within a universe without elements is empty
some_element : (u : ℕ) (xs : List ℕ) → list_all (λ x. nat_lt x u) xs ≡ true → not (length xs == 0) ≡ true → 1 ≤ u
some_element u [] all some = absurd (false≢true some)
some_element u (x ∷ xs) all some =
    let below : x < u = ltb-true x u (and_parts (nat_lt x u) (list_all (λ x. nat_lt x u) xs) all).0 in omega arith

-- what it is to meet the problem of two concepts of which nothing is said
parts : (a b : Bool) → ((((((a && true) && true) && true) && b) && true) && true) ≡ true → (a ≡ true) × (b ≡ true)
parts true true h = (refl, refl)
parts true false h = cc
parts false b h = cc

met : (f : Family) → IsTrue (meets (one_each [] all_on) f) → (list_all (list_all (λ x. nat_lt x f.universe)) f.sets ≡ true) × (not (length (set_of f 0) == 0) ≡ true)
met f m =
    let both = parts (fits_concepts (one_each [] all_on) f) (none_empty (one_each [] all_on) f) m in (
      (and_parts (length f.sets == 2) (list_all (list_all (λ x. nat_lt x f.universe)) f.sets) both.0).1,
      (and_parts (not (length (set_of f 0) == 0)) (not (length (set_of f 1) == 0) && true) both.1).0,
    )

-- the first relation of two lists of one
first_is : (a b : Rel) (xs ys : List Rel) → a ∷ xs ≡ b ∷ ys → a ≡ b
first_is a b xs ys e = cc

pub returns : goal.returns
returns c = record {
  overlap = (record { universe = 3; sets = (0 ∷ 1 ∷ []) ∷ (0 ∷ 2 ∷ []) ∷ [] }, refl, refl);
  three = λ f m e. three_elements f.universe (set_of f 0) (set_of f 1) (within f.universe f.sets 0 (met f m).0) (within f.universe f.sets 1 (met f m).0) (first_is _ _ _ _ e);
  one = λ f m. some_element f.universe (set_of f 0) (within f.universe f.sets 0 (met f m).0) (met f m).1;
  empty = refl;
}
