-- Rows that show sets.
use Rattle.std.proofs.Common.{◌≡◌, ℕ, ◌+◌, ◌<◌, ◌≤◌, Bool, true, false, ◌&&◌, ◌||◌, not, List, [], ◌∷◌, length, get_or, take, ◌⊎◌, inl, inr, refl, sym, ap, ap₂, ◌∙◌, subst, arith}
use Rattle.std.specs.Prelude.{All, IsTrue, ◌==◌, ◌↔◌, nat_lt}
use Rattle.std.specs.List.{list_all}
use Rattle.std.proofs.lemmas.Bool.{and_parts, and_from, cases_eq, ltb-true}
use Rattle.std.proofs.lemmas.List.{take_more, take_all}
use Rattle.std.proofs.lemmas.List.Folds.{list_any-append}
use Rattle.rcc5_core.specs.Relation.{is_in, is_subset, have_common, relation_by, relation_of}
use Rattle.rcc5_core.proofs.Sets.{relation_of-by}
use Rattle.world_model.specs.Family.{Family, set_of}
use Rattle.world_model.proofs.Members.{In-get_or, all_at}
use Rattle.world_model.proofs.PointFamilies.{subset_at, subset_from, common_at, common_from}
use Rattle.set_family.specs.Sets.{is_set_below}
use Rattle.bit_rows.specs.Rows.{BitRows, bit_in, has_bit, SomePlace, IsPushed, IsPut}

or_off : (b : Bool) → (b || false) ≡ b
or_off true = refl
or_off false = refl

-- what is told of one side is told of the other, where each is true with the other
both_ways : (a b : Bool) → (IsTrue a → IsTrue b) → (IsTrue b → IsTrue a) → a ≡ b
both_ways true true f g = refl
both_ways false false f g = refl
both_ways true false f g = sym (f refl)
both_ways false true f g = g refl

-- a row that has just the elements of a set
abbrev pub IsRowOf : List ℕ → List ℕ → Type 0
IsRowOf row xs = (k : ℕ) → has_bit row k ≡ is_in k xs

-- so rows tell which set is within another, and which have an element in common
pub inside_is : (one other xs ys : List ℕ) (inside : Bool) → IsRowOf one xs → IsRowOf other ys → (IsTrue inside ↔ ((k : ℕ) → has_bit one k ≡ true → has_bit other k ≡ true)) → inside ≡ is_subset xs ys
inside_is one other xs ys inside left right tells =
    both_ways inside (is_subset xs ys)
    (λ h. subset_from xs ys (λ x i. sym (right x) ∙ tells.0 h x (left x ∙ i)))
    (λ h. tells.1 (λ k b. right k ∙ subset_at xs ys k h (sym (left k) ∙ b)))

pub common_is : (one other xs ys : List ℕ) (common : Bool) → IsRowOf one xs → IsRowOf other ys → (IsTrue common ↔ SomePlace (λ k. has_bit one k && has_bit other k)) → common ≡ have_common xs ys
common_is one other xs ys common left right tells =
    both_ways common (have_common xs ys)
    (λ h.
    let found = tells.0 h in
    let parts = and_parts (has_bit one found.place) (has_bit other found.place) found.passes in
    common_from xs ys found.place (sym (left found.place) ∙ parts.0) (sym (right found.place) ∙ parts.1))
    (λ h.
    let found = common_at xs ys h in
    tells.1 (record { place = found.0; passes = and_from (has_bit one found.0) (has_bit other found.0) (left found.0 ∙ found.1) (right found.0 ∙ found.2) }))

-- and the relation of the two
pub relation_told : (xs ys : List ℕ) (within common around : Bool) → within ≡ is_subset xs ys → common ≡ have_common xs ys → around ≡ is_subset ys xs →
    relation_by (not within) common (not around) ≡ relation_of xs ys
relation_told xs ys within common around a b c =
    ap (λ w. relation_by (not w) common (not around)) a ∙
    ap (λ w. relation_by (not (is_subset xs ys)) w (not around)) b ∙
    ap (λ w. relation_by (not (is_subset xs ys)) (have_common xs ys) (not w)) c ∙
    sym (relation_of-by xs ys)

-- one element more
pub in_more : (xs : List ℕ) (n k : ℕ) → n < length xs → (is_in k (take n xs) || (k == get_or xs n 0)) ≡ is_in k (take (n + 1) xs)
in_more xs n k small =
    ap (λ b. is_in k (take n xs) || b) (sym (or_off (k == get_or xs n 0))) ∙
    sym (list_any-append (λ y. k == y) (take n xs) (get_or xs n 0 ∷ [])) ∙
    ap (is_in k) (sym (take_more xs n 0 small))

-- a row is added, and gets the elements of a set one after another
pub pushed_more : (old mid new : BitRows) (last place : ℕ) (xs : List ℕ) (n : ℕ) → n < length xs → last ≡ old.count → place ≡ get_or xs n 0 → IsPushed old mid (λ k. is_in k (take n xs)) →
    IsPut mid new last (λ k. bit_in mid last k || (k == place)) → IsPushed old new (λ k. is_in k (take (n + 1) xs))
pushed_more old mid new last place xs n small is at pushed put = record {
  count = put.count ∙ pushed.count;
  width = put.width ∙ pushed.width;
  there = λ k. subst (λ r. bit_in new r k ≡ bit_in mid r k || (k == place)) is (put.there k) ∙ ap₂ (λ b y. b || (k == y)) (pushed.there k) at ∙ in_more xs n k small;
  before = λ r k h. put.others r k (λ e. omega (arith, e, h, is)) ∙ pushed.before r k h;
  past = λ r k h. put.others r k (λ e. omega (arith, e, h, is)) ∙ pushed.past r k h;
}

-- before the first element, and after the last
pub pushed_none : (old new : BitRows) (xs : List ℕ) → IsPushed old new (λ _. false) → IsPushed old new (λ k. is_in k (take 0 xs))
pushed_none old new xs pushed = pushed

pub pushed_all : (old new : BitRows) (xs : List ℕ) (n : ℕ) → length xs ≤ n → IsPushed old new (λ k. is_in k (take n xs)) → IsPushed old new (λ k. is_in k xs)
pushed_all old new xs n done pushed = subst (λ ys. IsPushed old new (λ k. is_in k ys)) (take_all n xs done) pushed

-- the first so many sets are shown
pub record AreFirst (f : Family) (rows : BitRows) (count width : ℕ) : Type 0 where
  pub count_is : rows.count ≡ count
  pub width_is : rows.width ≡ width
  pub shown : (c k : ℕ) → c < count → bit_in rows c k ≡ is_in k (set_of f c)

pub first_none : (f : Family) (rows : BitRows) (width : ℕ) → rows.count ≡ 0 → rows.width ≡ width → AreFirst f rows 0 width
first_none f rows width none wide = record { count_is = none; width_is = wide; shown = λ c k h. absurd (omega (arith, h)) }

pub first_more : (f : Family) (old new : BitRows) (count width : ℕ) (xs : List ℕ) → xs ≡ set_of f count → AreFirst f old count width → IsPushed old new (λ k. is_in k xs) → AreFirst f new (count + 1) width
first_more f old new count width xs is first pushed = record {
  count_is = pushed.count ∙ ap (λ n. n + 1) first.count_is;
  width_is = pushed.width ∙ first.width_is;
  shown = λ c k h. elim (cases_last c count h) [
    | inl last ↦ ap (λ r. bit_in new r k) (last ∙ sym first.count_is) ∙ pushed.there k ∙ ap (is_in k) (is ∙ ap (set_of f) (sym last))
    | inr before ↦ pushed.before c k (subst (λ n. c < n) (sym first.count_is) before) ∙ first.shown c k before
  ];
}
  where
    cases_last : (c n : ℕ) → c < n + 1 → (c ≡ n) ⊎ (c < n)
    cases_last c n h = elim (cases_eq c n) [
      | inl last ↦ inl last
      | inr apart ↦ inr (omega (arith, h, apart))
    ]

-- the numbers of a family's sets are below its own
pub all_below : (f : Family) (c : ℕ) (room : ℕ) → c < length f.sets → f.universe ≤ room → list_all (is_set_below f.universe) f.sets ≡ true → All (λ x. x < room) (set_of f c)
all_below f c room small wide all k d h =
    let below = (and_parts _ (list_all (λ x. nat_lt x f.universe) (set_of f c)) (all_at (is_set_below f.universe) all (In-get_or f.sets c [] small))).1 in
    let one : get_or (set_of f c) k d < f.universe = ltb-true (get_or (set_of f c) k d) f.universe (all_at (λ x. nat_lt x f.universe) below (In-get_or (set_of f c) k d h)) in
    omega (arith, one, wide)
