-- The rules of a problem that speak of the concepts alone: a family keeps them where each of its elements does.
use Rattle.std.proofs.Common.{◌≡◌, ℕ, Bool, true, false, not, ◌&&◌, ◌||◌, List, [], ◌∷◌, length, inl, inr, refl, sym, ap, ◌∙◌, arith}
use Rattle.std.specs.Prelude.{◌==◌}
use Rattle.std.specs.List.{list_all, list_any}
use Rattle.std.proofs.lemmas.Bool.{and_parts, and_from, or_cases, or_left, or_right, false≢true, false_from_ne_true, not-true, ne_eqb, eq-eqb, cases_Bool, both_ways}
use Rattle.rcc5_core.specs.Relation.{is_in, is_subset, have_common}
use Rattle.world_model.specs.Problem.{Problem, SumRule, concept_count, concepts, children_of, constraints, kept_sums}
use Rattle.world_model.specs.Family.{Family, set_of, implies, fits_concepts, children_within, siblings_apart, parents_covered, none_empty, holds, sum_holds, meets}
use Rattle.world_model.specs.Alive.{bit_of, point_within, point_apart, point_covered, same_bool, point_sums, meets_structure}
use Rattle.world_model.proofs.Members.{In, here, all_at, all_from, any_at, any_from}
use Rattle.world_model.proofs.PointSets.{implies_at, implies_from, same_bool_at}
use Rattle.world_model.proofs.PointFamilies.{Shows, shown, shown_in, in_from_is, is_from_in, subset_at, subset_from, common_at, common_from}

-- what one test says of each of a list, another does
pub all_so : {X : Type 0} (one other : X → Bool) (xs : List X) → list_all one xs ≡ true → ((x : X) → In x xs → one x ≡ true → other x ≡ true) →
    list_all other xs ≡ true
all_so one other xs h so = all_from other xs (λ x i. so x i (all_at one h i))

pub same_bool_from : (a b : Bool) → (a ≡ true → b ≡ true) → (b ≡ true → a ≡ true) → same_bool a b ≡ true
same_bool_from true b to back = rw (to refl) refl
same_bool_from false true to back = back refl
same_bool_from false false to back = refl

-- a test passes at the point of each element of a family
abbrev pub EachElement : (ℕ → List Bool) → (List Bool → Bool) → Type 0
EachElement point test = (x c : ℕ) → bit_of (point x) c ≡ true → test (point x) ≡ true

-- children within parents
within_at : (p : Problem) {f : Family} {point : ℕ → List Bool} → Shows f point → children_within p f ≡ true → (x : ℕ) → point_within p (point x) ≡ true
within_at p {f} {point} s h x =
    all_so _ (λ c. list_all (λ child. implies (bit_of (point x) child) (bit_of (point x) c)) (children_of p c)) (concepts p) h (λ c i inner.
    all_so _ (λ child. implies (bit_of (point x) child) (bit_of (point x) c)) (children_of p c) inner (λ child j within.
    implies_from (bit_of (point x) child) (bit_of (point x) c) (λ b.
    shown s x c (subset_at (set_of f child) (set_of f c) x within (shown_in s x child b)))))

within_from : (p : Problem) {f : Family} {point : ℕ → List Bool} → Shows f point → EachElement point (point_within p) → children_within p f ≡ true
within_from p {f} {point} s each =
    all_from (λ c. list_all (λ child. is_subset (set_of f child) (set_of f c)) (children_of p c)) (concepts p) (λ c i.
    all_from (λ child. is_subset (set_of f child) (set_of f c)) (children_of p c) (λ child j.
    subset_from (set_of f child) (set_of f c) (λ x e. shown_in s x c (step c child x i j (shown s x child e)))))
  where
    step : (c child x : ℕ) → In c (concepts p) → In child (children_of p c) → bit_of (point x) child ≡ true → bit_of (point x) c ≡ true
    step c child x i j b =
        let all_children = all_at (λ c. list_all (λ child. implies (bit_of (point x) child) (bit_of (point x) c)) (children_of p c)) (each x child b) i in
        implies_at (bit_of (point x) child) (bit_of (point x) c) (all_at (λ child. implies (bit_of (point x) child) (bit_of (point x) c)) all_children j) b

-- children apart
abbrev apart_bits : List Bool → ℕ → ℕ → Bool
apart_bits bits a b = (a == b) || not (bit_of bits a && bit_of bits b)

abbrev apart_sets : Family → ℕ → ℕ → Bool
apart_sets f a b = (a == b) || not (have_common (set_of f a) (set_of f b))

apart_pair_at : {f : Family} {point : ℕ → List Bool} → Shows f point → (a b x : ℕ) → apart_sets f a b ≡ true → apart_bits (point x) a b ≡ true
apart_pair_at {f} {point} s a b x h = elim (or_cases (a == b) (not (have_common (set_of f a) (set_of f b))) h) [
  | inl same ↦ or_left (a == b) (not (bit_of (point x) a && bit_of (point x) b)) same
  | inr none ↦ or_right (a == b) (not (bit_of (point x) a && bit_of (point x) b)) (ap not (false_from_ne_true (bit_of (point x) a && bit_of (point x) b) (λ both.
      let parts = and_parts (bit_of (point x) a) (bit_of (point x) b) both in
      both_ways (have_common (set_of f a) (set_of f b)) (not-true (have_common (set_of f a) (set_of f b)) none)
      (common_from (set_of f a) (set_of f b) x (shown_in s x a parts.0) (shown_in s x b parts.1)))))
]

apart_pair_from : {f : Family} {point : ℕ → List Bool} → Shows f point → (a b : ℕ) → ((x : ℕ) → bit_of (point x) a ≡ true → apart_bits (point x) a b ≡ true) →
    apart_sets f a b ≡ true
apart_pair_from {f} {point} s a b each = elim (cases_Bool (a == b)) [
  | inl same ↦ or_left (a == b) (not (have_common (set_of f a) (set_of f b))) same
  | inr apart ↦ or_right (a == b) (not (have_common (set_of f a) (set_of f b))) (ap not (false_from_ne_true (have_common (set_of f a) (set_of f b)) (λ h.
      let x = common_at (set_of f a) (set_of f b) h in
      let in_a = shown s x.0 a x.1 in
      let in_b = shown s x.0 b x.2 in
      elim (or_cases (a == b) (not (bit_of (point x.0) a && bit_of (point x.0) b)) (each x.0 in_a)) [
        | inl same ↦ both_ways (a == b) apart same
        | inr none ↦ both_ways (bit_of (point x.0) a && bit_of (point x.0) b) (not-true (bit_of (point x.0) a && bit_of (point x.0) b) none)
            (and_from (bit_of (point x.0) a) (bit_of (point x.0) b) in_a in_b)
      ])))
]

apart_at : (p : Problem) {f : Family} {point : ℕ → List Bool} → Shows f point → siblings_apart p f ≡ true → (x : ℕ) → point_apart p (point x) ≡ true
apart_at p {f} {point} s h x =
    all_so (λ c. list_all (λ a. list_all (apart_sets f a) (children_of p c)) (children_of p c))
    (λ c. list_all (λ a. list_all (apart_bits (point x) a) (children_of p c)) (children_of p c)) (concepts p) h (λ c i of_a.
    all_so (λ a. list_all (apart_sets f a) (children_of p c)) (λ a. list_all (apart_bits (point x) a) (children_of p c)) (children_of p c) of_a (λ a j of_b.
    all_so (apart_sets f a) (apart_bits (point x) a) (children_of p c) of_b (λ b k. apart_pair_at s a b x)))

apart_from : (p : Problem) {f : Family} {point : ℕ → List Bool} → Shows f point → EachElement point (point_apart p) → siblings_apart p f ≡ true
apart_from p {f} {point} s each =
    all_from (λ c. list_all (λ a. list_all (apart_sets f a) (children_of p c)) (children_of p c)) (concepts p) (λ c i.
    all_from (λ a. list_all (apart_sets f a) (children_of p c)) (children_of p c) (λ a j.
    all_from (apart_sets f a) (children_of p c) (λ b k. apart_pair_from s a b (λ x e.
    let of_a = all_at (λ c. list_all (λ a. list_all (apart_bits (point x) a) (children_of p c)) (children_of p c)) (each x a e) i in
    let of_b = all_at (λ a. list_all (apart_bits (point x) a) (children_of p c)) of_a j in
    all_at (apart_bits (point x) a) of_b k))))

-- parents covered
abbrev covered_bits : Problem → List Bool → ℕ → Bool
covered_bits p bits c = (length (children_of p c) == 0) || implies (bit_of bits c) (list_any (bit_of bits) (children_of p c))

abbrev covered_sets : Problem → Family → ℕ → Bool
covered_sets p f c =
    (length (children_of p c) == 0) || list_all (λ x. list_any (λ child. is_in x (set_of f child)) (children_of p c)) (set_of f c)

-- an element is in one of several sets exactly where one of their bits is true
any_shown : {f : Family} {point : ℕ → List Bool} → Shows f point → (x : ℕ) (cs : List ℕ) → list_any (λ c. is_in x (set_of f c)) cs ≡ true →
    list_any (bit_of (point x)) cs ≡ true
any_shown {f} {point} s x cs h =
    let found = any_at (λ c. is_in x (set_of f c)) cs h in any_from (bit_of (point x)) found.member (shown s x found.item found.passes)

any_shown_in : {f : Family} {point : ℕ → List Bool} → Shows f point → (x : ℕ) (cs : List ℕ) → list_any (bit_of (point x)) cs ≡ true →
    list_any (λ c. is_in x (set_of f c)) cs ≡ true
any_shown_in {f} {point} s x cs h =
    let found = any_at (bit_of (point x)) cs h in any_from (λ c. is_in x (set_of f c)) found.member (shown_in s x found.item found.passes)

covered_at : (p : Problem) {f : Family} {point : ℕ → List Bool} → Shows f point → parents_covered p f ≡ true → (x : ℕ) → point_covered p (point x) ≡ true
covered_at p {f} {point} s h x = all_so (covered_sets p f) (covered_bits p (point x)) (concepts p) h (λ c i covered.
    elim (or_cases (length (children_of p c) == 0) (list_all (λ x. list_any (λ child. is_in x (set_of f child)) (children_of p c)) (set_of f c)) covered) [
      | inl none ↦ or_left (length (children_of p c) == 0) (implies (bit_of (point x) c) (list_any (bit_of (point x)) (children_of p c))) none
      | inr all ↦ or_right (length (children_of p c) == 0) (implies (bit_of (point x) c) (list_any (bit_of (point x)) (children_of p c)))
          (implies_from (bit_of (point x) c) (list_any (bit_of (point x)) (children_of p c)) (λ b.
          any_shown s x (children_of p c)
          (all_at (λ x. list_any (λ child. is_in x (set_of f child)) (children_of p c)) all (in_from_is x (set_of f c) (shown_in s x c b)))))
    ])

covered_from : (p : Problem) {f : Family} {point : ℕ → List Bool} → Shows f point → EachElement point (point_covered p) → parents_covered p f ≡ true
covered_from p {f} {point} s each = all_from (covered_sets p f) (concepts p) (λ c i. elim (cases_Bool (length (children_of p c) == 0)) [
  | inl none ↦ or_left (length (children_of p c) == 0) (list_all (λ x. list_any (λ child. is_in x (set_of f child)) (children_of p c)) (set_of f c)) none
  | inr some ↦ or_right (length (children_of p c) == 0) (list_all (λ x. list_any (λ child. is_in x (set_of f child)) (children_of p c)) (set_of f c))
      (all_from (λ x. list_any (λ child. is_in x (set_of f child)) (children_of p c)) (set_of f c) (λ x j.
      let b = shown s x c (is_from_in x (set_of f c) j) in
      any_shown_in s x (children_of p c) (of_bits c (bit_of (point x) c) (list_any (bit_of (point x)) (children_of p c)) some b
      (all_at (covered_bits p (point x)) (each x c b) i))))
])
  where
    of_bits : (c : ℕ) (bit any : Bool) → (length (children_of p c) == 0) ≡ false → bit ≡ true → ((length (children_of p c) == 0) || implies bit any) ≡ true → any ≡ true
    of_bits c bit any some b h = elim (or_cases (length (children_of p c) == 0) (implies bit any) h) [
      | inl none ↦ absurd (both_ways (length (children_of p c) == 0) some none)
      | inr so ↦ implies_at bit any so b
    ]

-- no concept empty
pub an_element : (xs : List ℕ) → not (length xs == 0) ≡ true → (x : ℕ) × (is_in x xs ≡ true)
an_element [] h = absurd (false≢true h)
an_element (x ∷ xs) h = (x, is_from_in x (x ∷ xs) (here refl))

pub element_so : (xs : List ℕ) (x : ℕ) → is_in x xs ≡ true → not (length xs == 0) ≡ true
element_so [] x h = absurd (false≢true h)
element_so (y ∷ xs) x h = ap not (ne_eqb (length (y ∷ xs)) 0 (λ e. omega arith))

-- sums
sum_at : {f : Family} {point : ℕ → List Bool} → Shows f point → (sum : SumRule) → sum_holds f sum ≡ true → (x : ℕ) → point_sums (point x) sum ≡ true
sum_at {f} {point} s sum h x =
    let parts = and_parts (list_all (λ x. list_any (λ part. is_in x (set_of f part)) sum.parts) (set_of f sum.whole)) (list_all (λ part. is_subset (set_of f part) (set_of f sum.whole)) sum.parts) h in
    same_bool_from (bit_of (point x) sum.whole) (list_any (bit_of (point x)) sum.parts)
    (λ b. any_shown s x sum.parts
    (all_at (λ x. list_any (λ part. is_in x (set_of f part)) sum.parts) parts.0 (in_from_is x (set_of f sum.whole) (shown_in s x sum.whole b))))
    (λ any. let found = any_at (bit_of (point x)) sum.parts any in
    shown s x sum.whole (subset_at (set_of f found.item) (set_of f sum.whole) x
    (all_at (λ part. is_subset (set_of f part) (set_of f sum.whole)) parts.1 found.member) (shown_in s x found.item found.passes)))

sum_from : {f : Family} {point : ℕ → List Bool} → Shows f point → (sum : SumRule) → ((x c : ℕ) → bit_of (point x) c ≡ true → point_sums (point x) sum ≡ true) →
    sum_holds f sum ≡ true
sum_from {f} {point} s sum each =
    and_from (list_all (λ x. list_any (λ part. is_in x (set_of f part)) sum.parts) (set_of f sum.whole)) (list_all (λ part. is_subset (set_of f part) (set_of f sum.whole)) sum.parts)
    (all_from (λ x. list_any (λ part. is_in x (set_of f part)) sum.parts) (set_of f sum.whole) (λ x i.
    let b = shown s x sum.whole (is_from_in x (set_of f sum.whole) i) in
    any_shown_in s x sum.parts (sym (same x sum.whole b) ∙ b)))
    (all_from (λ part. is_subset (set_of f part) (set_of f sum.whole)) sum.parts (λ part i.
    subset_from (set_of f part) (set_of f sum.whole) (λ x e.
    let b = shown s x part e in
    shown_in s x sum.whole (same x part b ∙ any_from (bit_of (point x)) i b))))
  where
    same : (x c : ℕ) → bit_of (point x) c ≡ true → bit_of (point x) sum.whole ≡ list_any (bit_of (point x)) sum.parts
    same x c b = same_bool_at (bit_of (point x) sum.whole) (list_any (bit_of (point x)) sum.parts) (each x c b)

-- the parts of what a family that meets a problem keeps
pub record Met (p : Problem) (f : Family) : Type 0 where
  pub fits : fits_concepts p f ≡ true
  pub within : children_within p f ≡ true
  pub apart : implies p.switches.sibling (siblings_apart p f) ≡ true
  pub covered : implies p.switches.coverage (parents_covered p f) ≡ true
  pub nonempty : implies p.switches.nonempty (none_empty p f) ≡ true
  pub said : list_all (holds f) (constraints p) ≡ true
  pub summed : list_all (sum_holds f) (kept_sums p) ≡ true

seven_parts : (a b c d e f g : Bool) → (a && b && c && d && e && f && g) ≡ true →
    (a ≡ true) × (b ≡ true) × (c ≡ true) × (d ≡ true) × (e ≡ true) × (f ≡ true) × (g ≡ true)
seven_parts true true true true true true true h = (refl, refl, refl, refl, refl, refl, refl)
seven_parts false b c d e f g h = absurd (false≢true h)
seven_parts true false c d e f g h = absurd (false≢true h)
seven_parts true true false d e f g h = absurd (false≢true h)
seven_parts true true true false e f g h = absurd (false≢true h)
seven_parts true true true true false f g h = absurd (false≢true h)
seven_parts true true true true true false g h = absurd (false≢true h)
seven_parts true true true true true true false h = absurd (false≢true h)

pub met_parts : (p : Problem) (f : Family) → meets p f ≡ true → Met p f
met_parts p f h =
    let q = seven_parts (fits_concepts p f) (children_within p f) (implies p.switches.sibling (siblings_apart p f)) (implies p.switches.coverage (parents_covered p f))
    (implies p.switches.nonempty (none_empty p f)) (list_all (holds f) (constraints p)) (list_all (sum_holds f) (kept_sums p)) h in
    record { fits = q.0; within = q.1; apart = q.2; covered = q.3; nonempty = q.4; said = q.5; summed = q.6 }

pub met_whole : (p : Problem) (f : Family) → Met p f → meets p f ≡ true
met_whole p f m = and_from _ (list_all (sum_holds f) (kept_sums p)) (and_from _ (list_all (holds f) (constraints p)) (and_from _ (implies p.switches.nonempty (none_empty p f))
    (and_from _ (implies p.switches.coverage (parents_covered p f)) (and_from _ (implies p.switches.sibling (siblings_apart p f))
    (and_from (fits_concepts p f) (children_within p f) m.fits m.within) m.apart) m.covered) m.nonempty) m.said) m.summed

-- the parts of what a point keeps of this
pub record Structured (p : Problem) (bits : List Bool) : Type 0 where
  pub full : (length bits == concept_count p) ≡ true
  pub within : point_within p bits ≡ true
  pub apart : implies p.switches.sibling (point_apart p bits) ≡ true
  pub covered : implies p.switches.coverage (point_covered p bits) ≡ true
  pub summed : list_all (point_sums bits) (kept_sums p) ≡ true

pub structure_parts : (p : Problem) (bits : List Bool) → meets_structure p bits ≡ true → Structured p bits
structure_parts p bits h =
    let q = seven_parts true true (length bits == concept_count p) (point_within p bits) (implies p.switches.sibling (point_apart p bits))
    (implies p.switches.coverage (point_covered p bits)) (list_all (point_sums bits) (kept_sums p)) h in
    record { full = q.2; within = q.3; apart = q.4; covered = q.5; summed = q.6 }

pub structure_whole : (p : Problem) (bits : List Bool) → Structured p bits → meets_structure p bits ≡ true
structure_whole p bits m = and_from _ (list_all (point_sums bits) (kept_sums p)) (and_from _ (implies p.switches.coverage (point_covered p bits))
    (and_from _ (implies p.switches.sibling (point_apart p bits)) (and_from (length bits == concept_count p) (point_within p bits) m.full m.within) m.apart) m.covered) m.summed

-- each element of a family that meets a problem keeps the rules on the concepts
pub structure_at : (p : Problem) {f : Family} {point : ℕ → List Bool} → Shows f point → Met p f → (x : ℕ) → length (point x) ≡ concept_count p →
    meets_structure p (point x) ≡ true
structure_at p {f} {point} s m x full = structure_whole p (point x) (record {
  full = eq-eqb (length (point x)) (concept_count p) full;
  within = within_at p s m.within x;
  apart = implies_from p.switches.sibling (point_apart p (point x)) (λ on. apart_at p s (implies_at p.switches.sibling (siblings_apart p f) m.apart on) x);
  covered = implies_from p.switches.coverage (point_covered p (point x)) (λ on. covered_at p s (implies_at p.switches.coverage (parents_covered p f) m.covered on) x);
  summed = all_so (sum_holds f) (point_sums (point x)) (kept_sums p) m.summed (λ sum i h. sum_at s sum h x);
})

-- a family whose elements keep these rules keeps them
pub record KeepsRules (p : Problem) (f : Family) : Type 0 where
  pub within : children_within p f ≡ true
  pub apart : implies p.switches.sibling (siblings_apart p f) ≡ true
  pub covered : implies p.switches.coverage (parents_covered p f) ≡ true
  pub summed : list_all (sum_holds f) (kept_sums p) ≡ true

pub rules_from : (p : Problem) {f : Family} {point : ℕ → List Bool} → Shows f point → EachElement point (meets_structure p) → KeepsRules p f
rules_from p {f} {point} s each = record {
  within = within_from p s (λ x c b. (structure_parts p (point x) (each x c b)).within);
  apart = implies_from p.switches.sibling (siblings_apart p f) (λ on. apart_from p s (λ x c b.
      implies_at p.switches.sibling (point_apart p (point x)) (structure_parts p (point x) (each x c b)).apart on));
  covered = implies_from p.switches.coverage (parents_covered p f) (λ on. covered_from p s (λ x c b.
      implies_at p.switches.coverage (point_covered p (point x)) (structure_parts p (point x) (each x c b)).covered on));
  summed = all_from (sum_holds f) (kept_sums p) (λ sum i. sum_from s sum (λ x c b.
      all_at (point_sums (point x)) (structure_parts p (point x) (each x c b)).summed i));
}
