-- Needs have numbers, their literals say that a point is in them, and no literal stands beside its negation.
use Rattle.std.proofs.Common.{◌≡◌, ℕ, ◌+◌, ◌-◌, ◌*◌, ◌/◌, ◌%◌, ◌<◌, ◌≤◌, ◌↔◌, Bool, true, false, not, ◌&&◌, List, [], ◌∷◌, take, None, Some, Contains, inl, inr, refl, sym, ap, ◌∙◌, subst, arith}
use Rattle.std.specs.Prelude.{nat_lt}
use Rattle.std.specs.List.{list_all}
use Rattle.std.proofs.lemmas.Bool.{false≢true, lt-ltb, le-ltb, cases_lt}
use Rattle.std.proofs.lemmas.Nat.{div-mul-add, mod-mul-add}
use Rattle.rcc5_core.specs.declared.Rel.{Rel}
use Rattle.rcc5_core.specs.declared.Region.{Region}
use Rattle.rcc5_core.specs.declared.Region.TheVariants.{LeftOnly, Both, RightOnly}
use Rattle.lits_core.specs.Literals.{variable_of, is_negative, negation_of, lit_true}
use Rattle.lits_core.proofs.LiteralLemmas.{variable_of-literal_of, is_negative-literal_of, variable_of-negation, is_negative-negation, negation-other}
use Rattle.world_model.specs.Problem.{Problem, concept_count, pair_count}
use Rattle.world_model.specs.Alive.{Need, InRegion, InConcept, bit_of, is_in_need, problem_at, needs}
use Rattle.world_model.specs.Node.{pair_at}
use Rattle.world_model.proofs.Members.{In, here, there, none_in, from_append, in_from_contains, place_of}
use Rattle.world_model.proofs.PointPairs.{concept_below}
use Rattle.world_model.proofs.PointAlive.{from_needs}
use Rattle.constraint_set.proofs.Sums.{places_counted}
use Rattle.point_encode.specs.Model.Clauses.{is_so, is_not, first_sum_selector, variable_count}
use Rattle.point_encode.specs.Model.Forced.{region_number, region_with, selectors_of, need_count, need_with, need_lits, asked_of, IsNeed}
use Rattle.point_encode.proofs.model.Bits.{so_true, not_true, front_agrees}
use Rattle.point_encode.proofs.model.Groups.{pair_in_bounds, lies_same}
use Rattle.point_encode.proofs.model.Selectors.{from_selectors}

-- a region by its number
pub region_again : (region : Region) → region_with (region_number region) ≡ region
region_again LeftOnly = refl
region_again Both = refl
region_again RightOnly = refl

pub part_below : (region : Region) → region_number region < 3
part_below LeftOnly = omega arith
part_below Both = omega arith
part_below RightOnly = omega arith

-- the need with the number of a region, and of a concept
pub region_numbered : (p : Problem) (k : ℕ) (region : Region) → k < pair_count p → need_with p (3 * k + region_number region) ≡ Some (InRegion (pair_at p k) region)
region_numbered p k region within =
    let n = 3 * k + region_number region in
    let part = part_below region in
    let low : nat_lt n (3 * pair_count p) ≡ true = lt-ltb n (3 * pair_count p) (omega arith) in
    let there : nat_lt n (need_count p) ≡ true = lt-ltb n (need_count p) (omega arith) in
    let turn : n ≡ k * 3 + region_number region = omega arith in
    let pair_is : n / 3 ≡ k = ap (λ x. x / 3) turn ∙ div-mul-add k 3 (region_number region) part in
    let part_is : n % 3 ≡ region_number region = ap (λ x. x % 3) turn ∙ mod-mul-add k 3 (region_number region) part in
    rw (there, low) (ap (λ q. Some (InRegion (pair_at p q) (region_with (n % 3)))) pair_is ∙ ap (λ q. Some (InRegion (pair_at p k) (region_with q))) part_is ∙ ap (λ r. Some (InRegion (pair_at p k) r)) (region_again region))

pub concept_numbered : (p : Problem) (c : ℕ) → c < concept_count p → need_with p (3 * pair_count p + c) ≡ Some (InConcept c)
concept_numbered p c within =
    let n = 3 * pair_count p + c in
    let high : nat_lt n (3 * pair_count p) ≡ false = le-ltb n (3 * pair_count p) (omega arith) in
    let low : nat_lt n (need_count p) ≡ true = lt-ltb n (need_count p) (omega arith) in
    let left : n - 3 * pair_count p ≡ c = omega arith in
    rw (low, high) (ap (λ x. Some (InConcept x)) left)

-- what a need with a number is of
data Known (p : Problem) : Need → Type 0 where
  a_region : (k : ℕ) (region : Region) → k < pair_count p → Known p (InRegion (pair_at p k) region)
  a_concept : (c : ℕ) → c < concept_count p → Known p (InConcept c)

known : (p : Problem) (need : Need) → IsNeed p need → Known p need
known p need numbered = elim (cases_lt numbered.0 (3 * pair_count p)) [
  | inl low ↦
      let n = numbered.0 in
      let below : nat_lt n (3 * pair_count p) ≡ true = lt-ltb n (3 * pair_count p) low in
      let there : nat_lt n (need_count p) ≡ true = lt-ltb n (need_count p) (omega arith) in
      let is : need_with p n ≡ Some (InRegion (pair_at p (n / 3)) (region_with (n % 3))) = rw (there, below) refl in
      same (InRegion (pair_at p (n / 3)) (region_with (n % 3))) (sym is ∙ numbered.1) (a_region (n / 3) (region_with (n % 3)) (omega arith))
  | inr high ↦
      let n = numbered.0 in
      let past : nat_lt n (3 * pair_count p) ≡ false = le-ltb n (3 * pair_count p) high in
      elim (cases_lt n (need_count p)) [
        | inl low ↦
            let below : nat_lt n (need_count p) ≡ true = lt-ltb n (need_count p) low in
            let is : need_with p n ≡ Some (InConcept (n - 3 * pair_count p)) = rw (below, past) refl in
            same (InConcept (n - 3 * pair_count p)) (sym is ∙ numbered.1) (a_concept (n - 3 * pair_count p) (omega arith))
        | inr none ↦
            let above : nat_lt n (need_count p) ≡ false = le-ltb n (need_count p) none in
            let is : need_with p n ≡ None = rw above refl in
            let found : need_with p n ≡ Some need = numbered.1 in
            absurd (cc)
      ]
]
  where
    same : (other : Need) → Some other ≡ Some need → Known p other → Known p need
    same other e k = let f : other ≡ need = cc in subst (Known p) f k

-- the literals of a need say that the point is in it
both_true : (bits : List Bool) (a b : ℕ) (x y : Bool) → lit_true bits a ≡ x → lit_true bits b ≡ y → list_all (lit_true bits) (a ∷ b ∷ []) ≡ (x && y)
both_true bits a b x y e f = ap (λ s. s && (lit_true bits b && true)) e ∙ ap (λ t. x && (t && true)) f ∙ last x y
  where
    last : (x y : Bool) → (x && (y && true)) ≡ (x && y)
    last true true = refl
    last true false = refl
    last false y = refl

lits_say : (p : Problem) (bits : List Bool) {need : Need} → Known p need → list_all (lit_true bits) (need_lits need) ≡ is_in_need need (take (concept_count p) bits)
lits_say p bits (a_region k LeftOnly within) =
    let pair = pair_at p k in
    let b = pair_in_bounds p k within in
    both_true bits (is_so pair.0) (is_not pair.1) _ _ (so_true bits pair.0) (not_true bits pair.1) ∙ sym (lies_same (front_agrees (concept_count p) bits) LeftOnly pair b.left b.right)
lits_say p bits (a_region k Both within) =
    let pair = pair_at p k in
    let b = pair_in_bounds p k within in
    both_true bits (is_so pair.0) (is_so pair.1) _ _ (so_true bits pair.0) (so_true bits pair.1) ∙ sym (lies_same (front_agrees (concept_count p) bits) Both pair b.left b.right)
lits_say p bits (a_region k RightOnly within) =
    let pair = pair_at p k in
    let b = pair_in_bounds p k within in
    both_true bits (is_not pair.0) (is_so pair.1) _ _ (not_true bits pair.0) (so_true bits pair.1) ∙ sym (lies_same (front_agrees (concept_count p) bits) RightOnly pair b.left b.right)
lits_say p bits (a_concept c within) =
    ap (λ s. s && true) (so_true bits c) ∙ last (bit_of bits c) ∙ sym ((front_agrees (concept_count p) bits).same c within)
  where
    last : (x : Bool) → (x && true) ≡ x
    last true = refl
    last false = refl

pub need_truth : (p : Problem) (need : Need) (bits : List Bool) → IsNeed p need →
    (list_all (lit_true bits) (need_lits need) ≡ true) ↔ (is_in_need need (take (concept_count p) bits) ≡ true)
need_truth p need bits numbered =
    let e = lits_say p bits (known p need numbered) in
    ((λ t. sym e ∙ t), (λ t. e ∙ t))

-- needs have numbers
pub need_numbered : (p : Problem) (m : List Rel) (need : Need) → Contains (needs (problem_at p m)) need → IsNeed p need
need_numbered p m (InRegion pair region) i =
    let r = place_of (from_needs (problem_at p m) (InRegion pair region) (in_from_contains (needs (problem_at p m)) i)).0 in
    let at : pair_at p r.place ≡ pair = r.is (0, 0) in
    (3 * r.place + region_number region, region_numbered p r.place region r.within ∙ ap (λ q. Some (InRegion q region)) at)
need_numbered p m (InConcept c) i =
    let h = from_needs (problem_at p m) (InConcept c) (in_from_contains (needs (problem_at p m)) i) in
    (3 * pair_count p + c, concept_numbered p c (concept_below p c h.1))

-- a selector is a variable past the concepts, and not negated
record IsSelector (p : Problem) (lit : ℕ) : Type 0 where
  past : concept_count p ≤ variable_of lit
  within : variable_of lit < variable_count p
  positive : is_negative lit ≡ false

selector_of : (p : Problem) (lit v : ℕ) → lit ≡ is_so v → concept_count p ≤ v → v < variable_count p → IsSelector p lit
selector_of p lit v is low high =
    let e : variable_of lit ≡ v = ap variable_of is ∙ variable_of-literal_of v false in
    record { past = omega arith; within = omega arith; positive = ap is_negative is ∙ is_negative-literal_of v false }

is_selector : (p : Problem) (m : List Rel) (lit : ℕ) → In lit (selectors_of p m) → IsSelector p lit
is_selector p m lit i = elim (from_selectors p m lit i) [
  | inl r ↦ selector_of p lit (concept_count p + 3 * r.pair + region_number r.region) r.is (omega arith) (omega (arith, r.within, part_below r.region))
  | inr t ↦ selector_of p lit (first_sum_selector p + t.sum) t.is (omega arith) (omega (arith, t.within, places_counted p))
]

-- literals of two variables: each is of the first or the second, and two of one variable are one
record AreOfTwo (x y u v : ℕ) : Type 0 where
  left : variable_of u ≡ x
  right : variable_of v ≡ y
  order : x < y

of_two : {x y u v : ℕ} → AreOfTwo x y u v → (a b : ℕ) → In a (u ∷ v ∷ []) → In b (u ∷ v ∷ []) → variable_of a ≡ variable_of b → a ≡ b
of_two t a b (here e) (here f) same = e ∙ sym f
of_two {x} {y} {u} {v} t a b (here e) (there (here f)) same =
    let l = ap variable_of e in let r = ap variable_of f in absurd (omega (arith, t.left, t.right, t.order, l, r, same))
of_two {x} {y} {u} {v} t a b (there (here e)) (here f) same =
    let l = ap variable_of e in let r = ap variable_of f in absurd (omega (arith, t.left, t.right, t.order, l, r, same))
of_two t a b (there (here e)) (there (here f)) same = e ∙ sym f
of_two t a b (there (there i)) j same = absurd (none_in i)
of_two t a b i (there (there j)) same = absurd (none_in j)

below_of_two : {x y u v : ℕ} (n : ℕ) → AreOfTwo x y u v → y < n → (a : ℕ) → In a (u ∷ v ∷ []) → variable_of a < n
below_of_two n t high a (here e) = let l = ap variable_of e in omega (arith, t.left, t.order)
below_of_two n t high a (there (here e)) = let r = ap variable_of e in omega (arith, t.right)
below_of_two n t high a (there (there i)) = absurd (none_in i)

-- the literals of a need are of concepts, of one each
record AreOfConcepts (p : Problem) (lits : List ℕ) : Type 0 where
  below : (a : ℕ) → In a lits → variable_of a < concept_count p
  one : (a b : ℕ) → In a lits → In b lits → variable_of a ≡ variable_of b → a ≡ b

of_pair : (p : Problem) (k u v : ℕ) → k < pair_count p → variable_of u ≡ (pair_at p k).0 → variable_of v ≡ (pair_at p k).1 → AreOfConcepts p (u ∷ v ∷ [])
of_pair p k u v within e f =
    let b = pair_in_bounds p k within in
    let t : AreOfTwo (pair_at p k).0 (pair_at p k).1 u v = record { left = e; right = f; order = b.order } in
    record { below = below_of_two (concept_count p) t b.right; one = of_two t }

need_concepts : (p : Problem) {need : Need} → Known p need → AreOfConcepts p (need_lits need)
need_concepts p (a_region k LeftOnly within) = of_pair p k (is_so (pair_at p k).0) (is_not (pair_at p k).1) within (variable_of-literal_of (pair_at p k).0 false) (variable_of-literal_of (pair_at p k).1 true)
need_concepts p (a_region k Both within) = of_pair p k (is_so (pair_at p k).0) (is_so (pair_at p k).1) within (variable_of-literal_of (pair_at p k).0 false) (variable_of-literal_of (pair_at p k).1 false)
need_concepts p (a_region k RightOnly within) = of_pair p k (is_not (pair_at p k).0) (is_so (pair_at p k).1) within (variable_of-literal_of (pair_at p k).0 true) (variable_of-literal_of (pair_at p k).1 false)
need_concepts p (a_concept c within) = record { below = below; one = one }
  where
    below : (a : ℕ) → In a (is_so c ∷ []) → variable_of a < concept_count p
    below a (here e) = let f : variable_of a ≡ c = ap variable_of e ∙ variable_of-literal_of c false in omega arith
    below a (there i) = absurd (none_in i)

    one : (a b : ℕ) → In a (is_so c ∷ []) → In b (is_so c ∷ []) → variable_of a ≡ variable_of b → a ≡ b
    one a b (here e) (here f) same = e ∙ sym f
    one a b (there i) j same = absurd (none_in i)
    one a b i (there j) same = absurd (none_in j)

-- what is asked is of the problem's variables
pub asked_in_range : (p : Problem) (m : List Rel) (need : Need) → IsNeed p need → (lit : ℕ) → Contains (asked_of p m need) lit → variable_of lit < variable_count p
asked_in_range p m need numbered lit i = elim (from_append (selectors_of p m) (in_from_contains (asked_of p m need) i)) [
  | inl selector ↦ (is_selector p m lit selector).within
  | inr literal ↦ omega (arith, (need_concepts p (known p need numbered)).below lit literal)
]

-- no literal of it stands beside its negation
pub asked_consistent : (p : Problem) (m : List Rel) (need : Need) → IsNeed p need → (lit : ℕ) → Contains (asked_of p m need) lit → Contains (asked_of p m need) (negation_of lit) → ⊥
asked_consistent p m need numbered lit i j =
    let c = need_concepts p (known p need numbered) in
    let same = variable_of-negation lit in
    elim (from_append (selectors_of p m) (in_from_contains (asked_of p m need) i)) [
      | inl a ↦
          let s = is_selector p m lit a in
          elim (from_append (selectors_of p m) (in_from_contains (asked_of p m need) j)) [
            | inl b ↦ false≢true (sym (is_selector p m (negation_of lit) b).positive ∙ is_negative-negation lit ∙ ap not s.positive)
            | inr b ↦ omega (arith, c.below (negation_of lit) b, s.past, same)
          ]
      | inr a ↦
          elim (from_append (selectors_of p m) (in_from_contains (asked_of p m need) j)) [
            | inl b ↦ omega (arith, c.below lit a, (is_selector p m (negation_of lit) b).past, same)
            | inr b ↦ negation-other lit (c.one (negation_of lit) lit b a same)
          ]
    ]
