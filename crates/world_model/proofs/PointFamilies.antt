-- Families of sets and single points: an element of a family is a point, and points taken as a family are its elements.
use Rattle.std.proofs.Common.{◌≡◌, ℕ, zero, suc, ◌+◌, ◌<◌, ◌≤◌, Bool, true, false, not, ◌&&◌, cond, List, [], ◌∷◌, map, length, get_or, ◌⊎◌, inl, inr, refl, sym, ap, ◌∙◌, subst, arith}
use Rattle.std.specs.Prelude.{◌==◌}
use Rattle.std.specs.List.{list_all}
use Rattle.std.proofs.lemmas.Bool.{and_parts, and_from, false≢true, false_from_ne_true, not-true, eqb-true, eq-eqb, ne_eqb, cases_lt}
use Rattle.std.proofs.lemmas.List.{get_or_past}
use Rattle.std.proofs.lemmas.List.FromFn.{get_or-map-range_with_len, length-map-range_with_len}
use Rattle.rcc5_core.specs.declared.Region.{Region}
use Rattle.rcc5_core.specs.declared.Region.TheVariants.{LeftOnly, Both, RightOnly}
use Rattle.rcc5_core.specs.Relation.{is_in, is_subset, have_common}
use Rattle.world_model.specs.Problem.{Problem, concept_count, concepts}
use Rattle.world_model.specs.Family.{Family, set_of}
use Rattle.world_model.specs.Alive.{bit_of, lies_by, lies_in, places_with, family_of}
use Rattle.world_model.proofs.Members.{In, here, there, all_at, all_from, any_at, any_from, In-get_or}
use Rattle.world_model.proofs.PointSets.{seen}

pub in_from_is : (x : ℕ) (ys : List ℕ) → is_in x ys ≡ true → In x ys
in_from_is x ys h =
    let f = any_at (λ y. x == y) ys h in
    subst (λ y. In y ys) (sym (eqb-true x f.item f.passes)) f.member

pub is_from_in : (x : ℕ) (ys : List ℕ) → In x ys → is_in x ys ≡ true
is_from_in x ys i = any_from (λ y. x == y) i (eq-eqb x x refl)

pub subset_at : (xs ys : List ℕ) (x : ℕ) → is_subset xs ys ≡ true → is_in x xs ≡ true → is_in x ys ≡ true
subset_at xs ys x h i = all_at (λ x. is_in x ys) h (in_from_is x xs i)

pub subset_from : (xs ys : List ℕ) → ((x : ℕ) → is_in x xs ≡ true → is_in x ys ≡ true) → is_subset xs ys ≡ true
subset_from xs ys each = all_from (λ x. is_in x ys) xs (λ x i. each x (is_from_in x xs i))

pub common_at : (xs ys : List ℕ) → have_common xs ys ≡ true → (x : ℕ) × (is_in x xs ≡ true) × (is_in x ys ≡ true)
common_at xs ys h = let f = any_at (λ x. is_in x ys) xs h in (f.item, is_from_in f.item xs f.member, f.passes)

pub common_from : (xs ys : List ℕ) (x : ℕ) → is_in x xs ≡ true → is_in x ys ≡ true → have_common xs ys ≡ true
common_from xs ys x i j = any_from (λ x. is_in x ys) (in_from_is x xs i) j

-- where not all pass, one fails
fails : (test : ℕ → Bool) (xs : List ℕ) → list_all test xs ≡ false → (x : ℕ) × In x xs × (test x ≡ false)
fails test [] h = absurd (false≢true (sym h))
fails test (y ∷ ys) h = split (test y) refl (λ rest. fails test ys rest) h
  where
    split : (b : Bool) → test y ≡ b → (list_all test ys ≡ false → (x : ℕ) × In x ys × (test x ≡ false)) → (b && list_all test ys) ≡ false →
        (x : ℕ) × In x (y ∷ ys) × (test x ≡ false)
    split true e rest h = let r = rest h in (r.0, there r.1, r.2)
    split false e rest h = (y, here refl, e)

pub subset_fails : (xs ys : List ℕ) → is_subset xs ys ≡ false → (x : ℕ) × (is_in x xs ≡ true) × (is_in x ys ≡ false)
subset_fails xs ys h = let f = fails (λ x. is_in x ys) xs h in (f.0, is_from_in f.0 xs f.1, f.2)

-- whether a region of two sets has an element
abbrev pub is_seen : Region → List ℕ → List ℕ → Bool
is_seen region xs ys = seen region (not (is_subset xs ys)) (have_common xs ys) (not (is_subset ys xs))

-- a region that has an element has one that lies in it
pub seen_at : (region : Region) (xs ys : List ℕ) → is_seen region xs ys ≡ true → (x : ℕ) × (lies_by region (is_in x xs) (is_in x ys) ≡ true)
seen_at LeftOnly xs ys h =
    let f = subset_fails xs ys (not-true (is_subset xs ys) h) in (f.0, and_from (is_in f.0 xs) (not (is_in f.0 ys)) f.1 (ap not f.2))
seen_at Both xs ys h =
    let f = common_at xs ys h in (f.0, and_from (is_in f.0 xs) (is_in f.0 ys) f.1 f.2)
seen_at RightOnly xs ys h =
    let f = subset_fails ys xs (not-true (is_subset ys xs) h) in (f.0, and_from (not (is_in f.0 xs)) (is_in f.0 ys) (ap not f.2) f.1)

not_subset : (xs ys : List ℕ) (x : ℕ) → is_in x xs ≡ true → is_in x ys ≡ false → not (is_subset xs ys) ≡ true
not_subset xs ys x i j = ap not (false_from_ne_true (is_subset xs ys) (λ h. false≢true (sym j ∙ subset_at xs ys x h i)))

-- and where one lies in it, it has an element
pub seen_from : (region : Region) (xs ys : List ℕ) (x : ℕ) → lies_by region (is_in x xs) (is_in x ys) ≡ true → is_seen region xs ys ≡ true
seen_from LeftOnly xs ys x h =
    let parts = and_parts (is_in x xs) (not (is_in x ys)) h in not_subset xs ys x parts.0 (not-true (is_in x ys) parts.1)
seen_from Both xs ys x h =
    let parts = and_parts (is_in x xs) (is_in x ys) h in common_from xs ys x parts.0 parts.1
seen_from RightOnly xs ys x h =
    let parts = and_parts (not (is_in x xs)) (is_in x ys) h in not_subset ys xs x parts.1 (not-true (is_in x xs) parts.0)

-- a point for each element: its bits say in which sets the element is
pub record Shows (f : Family) (point : ℕ → List Bool) : Type 0 where
  pub at : (x c : ℕ) → is_in x (set_of f c) ≡ bit_of (point x) c

pub shown : {f : Family} {point : ℕ → List Bool} → Shows f point → (x c : ℕ) → is_in x (set_of f c) ≡ true → bit_of (point x) c ≡ true
shown s x c h = sym (s.at x c) ∙ h

pub shown_in : {f : Family} {point : ℕ → List Bool} → Shows f point → (x c : ℕ) → bit_of (point x) c ≡ true → is_in x (set_of f c) ≡ true
shown_in s x c h = s.at x c ∙ h

pub lies_shown : {f : Family} {point : ℕ → List Bool} → Shows f point → (region : Region) (pair : ℕ × ℕ) (x : ℕ) →
    lies_in region pair (point x) ≡ lies_by region (is_in x (set_of f pair.0)) (is_in x (set_of f pair.1))
lies_shown {f} {point} s region pair x = ap (λ b. lies_by region b (bit_of (point x) pair.1)) (sym (s.at x pair.0)) ∙ ap (λ b. lies_by region (is_in x (set_of f pair.0)) b) (sym (s.at x pair.1))

-- the bits of an element
abbrev pub bits_at : Problem → Family → ℕ → List Bool
bits_at p f x = map (λ c. is_in x (set_of f c)) (concepts p)

bit_of-past : (bits : List Bool) (c : ℕ) → length bits ≤ c → bit_of bits c ≡ false
bit_of-past bits c h = get_or_past bits c false h

pub bits_show : (p : Problem) (f : Family) → length f.sets ≡ concept_count p → Shows f (bits_at p f)
bits_show p f same = record { at = λ x c. at x c (cases_lt c (concept_count p)) }
  where
    at : (x c : ℕ) → (c < concept_count p) ⊎ (concept_count p ≤ c) → is_in x (set_of f c) ≡ bit_of (bits_at p f x) c
    at x c (inl below) = sym (get_or-map-range_with_len (λ c. is_in x (set_of f c)) 0 (concept_count p) c c false below (omega arith))
    at x c (inr past) =
        let none : set_of f c ≡ [] = get_or_past f.sets c [] (omega arith) in
        let long : length (bits_at p f x) ≤ c = omega (arith, length-map-range_with_len (λ c. is_in x (set_of f c)) 0 (concept_count p)) in
        ap (λ ys. is_in x ys) none ∙ sym (bit_of-past (bits_at p f x) c long)

-- the places of the points with a bit
places_low : (c k : ℕ) (points : List (List Bool)) (x : ℕ) → x < k → is_in x (places_with c k points) ≡ false
places_low c k [] x h = refl
places_low c k (bits ∷ rest) x h =
    split (bit_of bits c) (places_low c (k + 1) rest x (omega arith))
  where
    split : (b : Bool) → is_in x (places_with c (k + 1) rest) ≡ false → is_in x (cond b (k ∷ places_with c (k + 1) rest) (places_with c (k + 1) rest)) ≡ false
    split true e = rw (ne_eqb x k (λ s. omega arith)) e
    split false e = e

places_at : (c k : ℕ) (points : List (List Bool)) (x y : ℕ) → k + x ≡ y → is_in y (places_with c k points) ≡ bit_of (get_or points x []) c
places_at c k [] x y h = refl
places_at c k (bits ∷ rest) zero y h =
    split (bit_of bits c) (places_low c (k + 1) rest y (omega arith))
  where
    split : (b : Bool) → is_in y (places_with c (k + 1) rest) ≡ false → is_in y (cond b (k ∷ places_with c (k + 1) rest) (places_with c (k + 1) rest)) ≡ b
    split true e = rw (eq-eqb y k (omega arith)) refl
    split false e = e
places_at c k (bits ∷ rest) (suc x) y h =
    split (bit_of bits c) (places_at c (k + 1) rest x y (omega arith))
  where
    split : (b : Bool) → is_in y (places_with c (k + 1) rest) ≡ bit_of (get_or rest x []) c →
        is_in y (cond b (k ∷ places_with c (k + 1) rest) (places_with c (k + 1) rest)) ≡ bit_of (get_or rest x []) c
    split true e = rw (ne_eqb y k (λ s. omega arith)) e
    split false e = e

-- points of one bit a concept, as a family
pub points_show : (p : Problem) (points : List (List Bool)) → ((bits : List Bool) → In bits points → length bits ≡ concept_count p) →
    Shows (family_of p points) (λ x. get_or points x [])
points_show p points full = record { at = λ x c. at x c (cases_lt c (concept_count p)) }
  where
    short : (x : ℕ) → (x < length points) ⊎ (length points ≤ x) → length (get_or points x []) ≤ concept_count p
    short x (inl below) = let e = full (get_or points x []) (In-get_or points x [] below) in omega (arith, e)
    short x (inr past) = rw (get_or_past points x [] past) (omega arith)

    at : (x c : ℕ) → (c < concept_count p) ⊎ (concept_count p ≤ c) → is_in x (set_of (family_of p points) c) ≡ bit_of (get_or points x []) c
    at x c (inl below) =
        let set : set_of (family_of p points) c ≡ places_with c 0 points = get_or-map-range_with_len (λ c. places_with c 0 points) 0 (concept_count p) c c [] below (omega arith) in
        ap (λ ys. is_in x ys) set ∙ places_at c 0 points x x (omega arith)
    at x c (inr past) =
        let none : set_of (family_of p points) c ≡ [] = get_or_past (map (λ c. places_with c 0 points) (concepts p)) c [] (omega (arith, length-map-range_with_len (λ c. places_with c 0 points) 0 (concept_count p))) in
        let long : length (get_or points x []) ≤ c = omega (arith, short x (cases_lt x (length points))) in
        ap (λ ys. is_in x ys) none ∙ sym (bit_of-past (get_or points x []) c long)

-- each of a set of such a family is the place of a point that has the concept's bit
pub in_points : (points : List (List Bool)) (x c : ℕ) → bit_of (get_or points x []) c ≡ true → x < length points
in_points points x c h = elim (cases_lt x (length points)) [
  | inl below ↦ below
  | inr past ↦ absurd (false≢true (sym (ap (λ bits. bit_of bits c) (get_or_past points x [] past)) ∙ h))
]
