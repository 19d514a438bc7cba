-- Tests of lists one item at a time, and what a family's tests are together.
use Rattle.std.proofs.Common.{◌≡◌, ℕ, zero, suc, ◌+◌, ◌-◌, ◌<◌, ◌≤◌, Bool, true, false, ◌&&◌, ◌||◌, not, List, [], ◌∷◌, length, take, drop, get_or, inl, inr, refl, sym, ap, ◌∙◌, arith}
use Rattle.std.specs.Prelude.{◌==◌, nat_lt, Some, filter_map, slice_get}
use Rattle.std.specs.List.{list_all, range_with_len, items_where_true}
use Rattle.std.proofs.lemmas.List.{drop_more, drop_all, take_all, length-drop}
use Rattle.std.proofs.lemmas.List.Folds.{list_all-append}
use Rattle.std.proofs.lemmas.Option.{slice_get_within, get_or_from_slice_get}
use Rattle.std.proofs.lemmas.Bool.{and_parts, and_from, false≢true, cases_eq, eq-eqb, ne_eqb}
use Rattle.rcc5_core.specs.Relation.{is_ascending, have_common}
use Rattle.world_model.specs.declared.Articulation.{Articulation}
use Rattle.world_model.specs.declared.Articulation.TheVariants.{Pair, Sum}
use Rattle.world_model.specs.Problem.{Problem, concepts, concept_count, children_of, kept_articulations, as_constraint, as_sum, kept_sums}
use Rattle.world_model.specs.Family.{Family, set_of, implies, holds, sum_holds, fits_concepts, children_within, siblings_apart, parents_covered, none_empty, meets}
use Rattle.world_model.proofs.PointFamilies.{common_at, common_from}
use Rattle.set_family.specs.Sets.{is_set_below}
use Rattle.set_family.specs.Rules.{are_within, is_apart, are_apart, is_covered, rules_at, articulation_holds}

-- two tests that imply each other are one
both_ways : (a b : Bool) → (a ≡ true → b ≡ true) → (b ≡ true → a ≡ true) → a ≡ b
both_ways true true f g = refl
both_ways true false f g = absurd (false≢true (f refl))
both_ways false true f g = absurd (false≢true (g refl))
both_ways false false f g = refl

-- a test of all is that of the first and of the rest
and_swap : (a b c d : Bool) → ((a && b) && (c && d)) ≡ ((a && c) && (b && d))
and_swap true true c d = refl
and_swap true false true d = refl
and_swap true false false d = refl
and_swap false b c d = refl

list_all_and : {X : Type 0} (p q : X → Bool) (xs : List X) → list_all (λ x. p x && q x) xs ≡ (list_all p xs && list_all q xs)
list_all_and p q [] = refl
list_all_and p q (x ∷ xs) = ap (λ r. (p x && q x) && r) (list_all_and p q xs) ∙ and_swap (p x) (q x) (list_all p xs) (list_all q xs)

list_all_same : {X : Type 0} (p q : X → Bool) (xs : List X) → ((x : X) → p x ≡ q x) → list_all p xs ≡ list_all q xs
list_all_same p q [] same = refl
list_all_same p q (x ∷ xs) same = rw (same x, list_all_same p q xs same) refl

all_true : {X : Type 0} (xs : List X) → list_all (λ _. true) xs ≡ true
all_true [] = refl
all_true (x ∷ xs) = all_true xs

list_all_implies : {X : Type 0} (b : Bool) (p : X → Bool) (xs : List X) → list_all (λ x. implies b (p x)) xs ≡ implies b (list_all p xs)
list_all_implies true p xs = refl
list_all_implies false p xs = all_true xs

-- a test that is the same for both orders, and holds of each item with itself
pub apart_more : {X : Type 0} (r : X → X → Bool) (x : X) (xs : List X) → ((a : X) → r a a ≡ true) → ((a b : X) → r a b ≡ r b a) →
    list_all (λ a. list_all (r a) (x ∷ xs)) (x ∷ xs) ≡ (list_all (r x) xs && list_all (λ a. list_all (r a) xs) xs)
apart_more r x xs self both =
    let first : (r x x && list_all (r x) xs) ≡ list_all (r x) xs = rw (self x) refl in
    let rest : list_all (λ a. r a x && list_all (r a) xs) xs ≡ (list_all (r x) xs && list_all (λ a. list_all (r a) xs) xs) =
    list_all_and (λ a. r a x) (λ a. list_all (r a) xs) xs ∙ ap (λ b. b && list_all (λ a. list_all (r a) xs) xs) (list_all_same (λ a. r a x) (r x) xs (λ a. both a x)) in
    ap (λ b. b && list_all (λ a. r a x && list_all (r a) xs) xs) first ∙ ap (λ b. list_all (r x) xs && b) rest ∙
    twice (list_all (r x) xs) (list_all (λ a. list_all (r a) xs) xs)
  where
    twice : (a b : Bool) → (a && (a && b)) ≡ (a && b)
    twice true b = refl
    twice false b = refl

-- to have an element in common is the same for both orders
common_turned : (xs ys : List ℕ) → have_common xs ys ≡ true → have_common ys xs ≡ true
common_turned xs ys h = let c = common_at xs ys h in common_from ys xs c.0 c.2 c.1

common_both_orders : (xs ys : List ℕ) → have_common xs ys ≡ have_common ys xs
common_both_orders xs ys = both_ways (have_common xs ys) (have_common ys xs) (common_turned xs ys) (common_turned ys xs)

same_both_orders : (a b : ℕ) → (a == b) ≡ (b == a)
same_both_orders a b = elim (cases_eq a b) [
  | inl same ↦ eq-eqb a b same ∙ sym (eq-eqb b a (sym same))
  | inr apart ↦ ne_eqb a b apart ∙ sym (ne_eqb b a (λ e. apart (sym e)))
]

apart_self : (f : Family) (a : ℕ) → is_apart f a a ≡ true
apart_self f a = let same : (a == a) ≡ true = eq-eqb a a refl in rw same refl

apart_both_orders : (f : Family) (a b : ℕ) → is_apart f a b ≡ is_apart f b a
apart_both_orders f a b = rw (same_both_orders a b, common_both_orders (set_of f a) (set_of f b)) refl

-- the children from one place on are apart where the first is apart from those after it, and these are
pub apart_at : (f : Family) (children : List ℕ) (i : ℕ) → i < length children →
    are_apart f (drop i children) ≡ (list_all (is_apart f (get_or children i 0)) (drop (i + 1) children) && are_apart f (drop (i + 1) children))
apart_at f children i within =
    ap (are_apart f) (drop_more children i 0 within) ∙ apart_more (is_apart f) (get_or children i 0) (drop (i + 1) children) (apart_self f) (apart_both_orders f)

-- the items from one place on, where the one there is known
pub drop_got : {X : Type 0} (xs : List X) (i : ℕ) (x : X) → slice_get xs i ≡ Some x → drop i xs ≡ x ∷ drop (i + 1) xs
drop_got xs i x h =
    drop_more xs i x (slice_get_within xs i x h) ∙ ap (λ y. y ∷ drop (i + 1) xs) (get_or_from_slice_get xs i x x h)

-- a test of all from one place on, where the one there is known
pub all_got : {X : Type 0} (test : X → Bool) (xs : List X) (i : ℕ) (x : X) (b : Bool) → slice_get xs i ≡ Some x → b ≡ test x →
    list_all test (drop i xs) ≡ (b && list_all test (drop (i + 1) xs))
all_got test xs i x b got is = ap (list_all test) (drop_got xs i x got) ∙ ap (λ t. t && list_all test (drop (i + 1) xs)) (sym is)

pub all_done : {X : Type 0} (test : X → Bool) (xs : List X) (i : ℕ) → length xs ≤ i → list_all test (drop i xs) ≡ true
all_done test xs i done = ap (list_all test) (drop_all i xs done)

-- the kept ones from one place on
pub kept_got : (test : Articulation → Bool) (flags : List Bool) (said : List Articulation) (i : ℕ) (a : Articulation) →
    slice_get flags i ≡ Some true → slice_get said i ≡ Some a →
    list_all test (items_where_true (drop i flags) (drop i said)) ≡ (test a && list_all test (items_where_true (drop (i + 1) flags) (drop (i + 1) said)))
kept_got test flags said i a flag got =
    ap (λ fs. list_all test (items_where_true fs (drop i said))) (drop_got flags i true flag) ∙
    ap (λ rest. list_all test (items_where_true (true ∷ drop (i + 1) flags) rest)) (drop_got said i a got)

pub kept_skipped : (test : Articulation → Bool) (flags : List Bool) (said : List Articulation) (i : ℕ) → i < length said → slice_get flags i ≡ Some false →
    list_all test (items_where_true (drop i flags) (drop i said)) ≡ list_all test (items_where_true (drop (i + 1) flags) (drop (i + 1) said))
kept_skipped test flags [] i within flag = absurd (omega arith)
kept_skipped test flags (s ∷ said) i within flag =
    ap (λ fs. list_all test (items_where_true fs (drop i (s ∷ said)))) (drop_got flags i false flag) ∙
    ap (λ rest. list_all test (items_where_true (false ∷ drop (i + 1) flags) rest)) (drop_more (s ∷ said) i s within)

none_kept : (flags : List Bool) → items_where_true {X = Articulation} flags [] ≡ []
none_kept [] = refl
none_kept (b ∷ bs) = refl

pub kept_done : (test : Articulation → Bool) (flags : List Bool) (said : List Articulation) (i : ℕ) → length said ≤ i →
    list_all test (items_where_true (drop i flags) (drop i said)) ≡ true
kept_done test flags said i done =
    ap (λ rest. list_all test (items_where_true (drop i flags) rest)) (drop_all i said done) ∙ ap (list_all test) (none_kept (drop i flags))

-- a test of the numbers from one on and below another
pub range_got : (test : ℕ → Bool) (i n : ℕ) (b : Bool) → i < n → b ≡ test i →
    list_all test (range_with_len i (n - i)) ≡ (b && list_all test (range_with_len (i + 1) (n - (i + 1))))
range_got test i n b within is =
    let e : n - i ≡ suc (n - (i + 1)) = omega arith in
    ap (λ k. list_all test (range_with_len i k)) e ∙ ap (λ t. t && list_all test (range_with_len (i + 1) (n - (i + 1)))) (sym is)

pub range_done : (test : ℕ → Bool) (i n : ℕ) → n ≤ i → list_all test (range_with_len i (n - i)) ≡ true
range_done test i n done = let e : n - i ≡ 0 = omega arith in ap (λ k. list_all test (range_with_len i k)) e

-- a family's sets are of numbers below its universe
numbers_below : (u : ℕ) (sets : List (List ℕ)) → list_all (is_set_below u) sets ≡ true → list_all (list_all (λ x. nat_lt x u)) sets ≡ true
numbers_below u [] h = refl
numbers_below u (xs ∷ sets) h =
    let parts = and_parts (is_set_below u xs) (list_all (is_set_below u) sets) h in
    and_from (list_all (λ x. nat_lt x u) xs) (list_all (list_all (λ x. nat_lt x u)) sets)
    (and_parts (is_ascending xs) (list_all (λ x. nat_lt x u) xs) parts.0).1 (numbers_below u sets parts.1)

and_true : (a : Bool) → (a && true) ≡ a
and_true true = refl
and_true false = refl

pub fits_by_count : (p : Problem) (f : Family) → list_all (is_set_below f.universe) f.sets ≡ true → (length f.sets == concept_count p) ≡ fits_concepts p f
fits_by_count p f h =
    sym (ap (λ b. (length f.sets == concept_count p) && b) (numbers_below f.universe f.sets h) ∙ and_true (length f.sets == concept_count p))

-- four tests of all, three of them under a switch
four_tests : {X : Type 0} (w s c n : X → Bool) (xs : List X) →
    list_all (λ x. w x && s x && c x && n x) xs ≡ (list_all w xs && list_all s xs && list_all c xs && list_all n xs)
four_tests w s c n xs =
    list_all_and (λ x. w x && s x && c x) n xs ∙
    ap (λ b. b && list_all n xs) (list_all_and (λ x. w x && s x) c xs ∙ ap (λ b. b && list_all c xs) (list_all_and w s xs))

switched_tests : {X : Type 0} (i j k : Bool) (w s c n : X → Bool) (xs : List X) →
    list_all (λ x. w x && implies i (s x) && implies j (c x) && implies k (n x)) xs ≡
    (list_all w xs && implies i (list_all s xs) && implies j (list_all c xs) && implies k (list_all n xs))
switched_tests i j k w s c n xs =
    four_tests w (λ x. implies i (s x)) (λ x. implies j (c x)) (λ x. implies k (n x)) xs ∙
    ap (λ b. list_all w xs && b && list_all (λ x. implies j (c x)) xs && list_all (λ x. implies k (n x)) xs) (list_all_implies i s xs) ∙
    ap (λ b. list_all w xs && implies i (list_all s xs) && b && list_all (λ x. implies k (n x)) xs) (list_all_implies j c xs) ∙
    ap (λ b. list_all w xs && implies i (list_all s xs) && implies j (list_all c xs) && b) (list_all_implies k n xs)

-- the rules on all concepts
rules_together : (p : Problem) (f : Family) →
    list_all (rules_at p f) (concepts p) ≡
    (children_within p f && implies p.switches.sibling (siblings_apart p f) && implies p.switches.coverage (parents_covered p f) && implies p.switches.nonempty (none_empty p f))
rules_together p f =
    switched_tests p.switches.sibling p.switches.coverage p.switches.nonempty
    (λ c. are_within f (children_of p c) c) (λ c. are_apart f (children_of p c))
    (λ c. (length (children_of p c) == 0) || is_covered f c (children_of p c)) (λ c. not (length (set_of f c) == 0)) (concepts p)

-- what is stated
stated_together : (f : Family) (said : List Articulation) →
    list_all (articulation_holds f) said ≡ (list_all (holds f) (filter_map as_constraint said) && list_all (sum_holds f) (filter_map as_sum said))
stated_together f [] = refl
stated_together f (Pair left right set ∷ said) = rw (stated_together f said) (and_left (holds f (record { left = left; right = right; set = set })) (list_all (holds f) (filter_map as_constraint said)) (list_all (sum_holds f) (filter_map as_sum said)))
  where
    and_left : (a b c : Bool) → (a && (b && c)) ≡ ((a && b) && c)
    and_left true b c = refl
    and_left false b c = refl
stated_together f (Sum whole parts ∷ said) = rw (stated_together f said) (and_right (sum_holds f (record { whole = whole; parts = parts })) (list_all (holds f) (filter_map as_constraint said)) (list_all (sum_holds f) (filter_map as_sum said)))
  where
    and_right : (a b c : Bool) → (a && (b && c)) ≡ (b && (a && c))
    and_right true b c = refl
    and_right false true c = refl
    and_right false false c = refl

-- the tests of a problem, as they are made and as they are defined
in_order : (fit w s c n pairs sums narrowed : Bool) →
    (fit && (w && s && c && n) && (pairs && sums) && narrowed) ≡ (fit && w && s && c && n && (pairs && narrowed) && sums)
in_order false w s c n pairs sums narrowed = refl
in_order true false s c n pairs sums narrowed = refl
in_order true true false c n pairs sums narrowed = refl
in_order true true true false n pairs sums narrowed = refl
in_order true true true true false pairs sums narrowed = refl
in_order true true true true true false sums narrowed = refl
in_order true true true true true true true true = refl
in_order true true true true true true true false = refl
in_order true true true true true true false true = refl
in_order true true true true true true false false = refl

-- a family meets a problem where it fits the concepts, and the rules and the statements hold
pub meets_together : (p : Problem) (f : Family) →
    (fits_concepts p f && list_all (rules_at p f) (concepts p) && list_all (articulation_holds f) (kept_articulations p) && list_all (holds f) p.narrowings) ≡ meets p f
meets_together p f =
    ap (λ b. fits_concepts p f && b && list_all (articulation_holds f) (kept_articulations p) && list_all (holds f) p.narrowings) (rules_together p f) ∙
    ap (λ b. fits_concepts p f && (children_within p f && implies p.switches.sibling (siblings_apart p f) && implies p.switches.coverage (parents_covered p f) && implies p.switches.nonempty (none_empty p f)) && b && list_all (holds f) p.narrowings) (stated_together f (kept_articulations p)) ∙
    in_order (fits_concepts p f) (children_within p f) (implies p.switches.sibling (siblings_apart p f)) (implies p.switches.coverage (parents_covered p f)) (implies p.switches.nonempty (none_empty p f))
    (list_all (holds f) (filter_map as_constraint (kept_articulations p))) (list_all (sum_holds f) (kept_sums p)) (list_all (holds f) p.narrowings) ∙
    ap (λ b. fits_concepts p f && children_within p f && implies p.switches.sibling (siblings_apart p f) && implies p.switches.coverage (parents_covered p f) && implies p.switches.nonempty (none_empty p f) && b && list_all (sum_holds f) (kept_sums p))
    (sym (list_all-append (holds f) (filter_map as_constraint (kept_articulations p)) p.narrowings))

-- two lists of one length are one where they have the same items
pub same_items : {X : Type 0} (xs ys : List X) → length xs ≡ length ys → ((k : ℕ) → k < length xs → slice_get xs k ≡ slice_get ys k) → xs ≡ ys
same_items [] [] counted same = refl
same_items [] (y ∷ ys) counted same = absurd (omega arith)
same_items (x ∷ xs) [] counted same = absurd (omega arith)
same_items (x ∷ xs) (y ∷ ys) counted same =
    let first : Some x ≡ Some y = same zero (omega arith) in
    let rest : xs ≡ ys = same_items xs ys (omega arith) (λ k h. same (suc k) (omega arith)) in
    cc

-- a slice that ends where its list does
pub slice_to_end : (xs : List ℕ) (i : ℕ) → take (length xs - i) (drop i xs) ≡ drop i xs
slice_to_end xs i = take_all (length xs - i) (drop i xs) (omega (arith, length-drop i xs))
