-- Each pair stands once, and what a position narrows.
use Rattle.std.proofs.Common.{◌≡◌, ℕ, zero, suc, ◌+◌, ◌-◌, ◌*◌, ◌<◌, ◌≤◌, Bool, true, false, not, ◌&&◌, cond, List, [], ◌∷◌, ◌++◌, map, length, get_or, inl, inr, refl, sym, ap, ◌∙◌, subst, arith}
use Rattle.std.specs.Prelude.{nat_lt, filter, flat_map, filter_map, slice_index_or}
use Rattle.std.specs.List.{range_with_len}
use Rattle.std.proofs.lemmas.Bool.{lt-ltb, le-ltb, both_ways, cases_lt, false_from_ne_true, not-true}
use Rattle.std.proofs.lemmas.List.{length-append, length-map, append-nil, append_assoc}
use Rattle.std.proofs.lemmas.List.Filters.{length-filter_both}
use Rattle.std.proofs.Math.Bool.{and_assoc}
use Rattle.rcc5_core.specs.declared.Rel.{Rel}
use Rattle.rcc5_core.specs.declared.Rel.TheVariants.{Equals, Includes, IncludedIn, Overlaps, Disjoint}
use Rattle.rcc5_core.specs.declared.RelSet.{RelSet}
use Rattle.rcc5_core.specs.RelationSet.{has, only, both_of, every_rel}
use Rattle.world_model.specs.Problem.{Problem, Constraint, concept_count, concepts, all_pairs, is_cross, pairs, pair_count, constraints, kept_articulations, as_constraint}
use Rattle.world_model.specs.Alive.{allowed, is_about, meet_of, narrowings_at, problem_at, said_of}
use Rattle.world_model.specs.Node.{pair_at}
use Rattle.world_model.proofs.Members.{In, here, there, In-get_or, from_map, from_filter, from_append, from_flat_map, from_range, IsImage, IsOf}
use Rattle.world_model.proofs.PointWhole.{has-both_of, has-every_rel, about_is, about_from}

-- none of a list stands in it twice
abbrev pub IsDistinct : {X : Type 0} → List X → Type 0
IsDistinct [] = Unit {0}
IsDistinct (x ∷ xs) = (In x xs → ⊥) × IsDistinct xs

distinct_filter : {X : Type 0} (test : X → Bool) (xs : List X) → IsDistinct xs → IsDistinct (filter test xs)
distinct_filter test [] h = tt
distinct_filter test (x ∷ xs) h = kept (test x) (distinct_filter test xs h.1)
  where
    kept : (b : Bool) → IsDistinct (filter test xs) → IsDistinct (cond b (x ∷ filter test xs) (filter test xs))
    kept true rest = ((λ i. h.0 (from_filter test xs i).0), rest)
    kept false rest = rest

distinct_append : {X : Type 0} (xs ys : List X) → IsDistinct xs → IsDistinct ys → ((x : X) → In x xs → In x ys → ⊥) → IsDistinct (xs ++ ys)
distinct_append [] ys h k apart = k
distinct_append (x ∷ xs) ys h k apart =
    ((λ i. elim (from_append xs i) [ inl l ↦ h.0 l | inr r ↦ apart x (here refl) r ]), distinct_append xs ys h.1 k (λ y i. apart y (there i)))

distinct_map : {X Y : Type 0} (f : X → Y) (xs : List X) → ((a b : X) → f a ≡ f b → a ≡ b) → IsDistinct xs → IsDistinct (map f xs)
distinct_map f [] one h = tt
distinct_map f (x ∷ xs) one h =
    ((λ i. let image : IsImage f (f x) xs = from_map f xs i in h.0 (subst (λ y. In y xs) (sym (one x image.source image.is)) image.member)), distinct_map f xs one h.1)

distinct_flat_map : {X Y : Type 0} (f : X → List Y) (xs : List X) → ((x : X) → IsDistinct (f x)) → ((a b : X) (y : Y) → In y (f a) → In y (f b) → a ≡ b) →
    IsDistinct xs → IsDistinct (flat_map f xs)
distinct_flat_map f [] each one h = tt
distinct_flat_map f (x ∷ xs) each one h =
    distinct_append (f x) (flat_map f xs) (each x) (distinct_flat_map f xs each one h.1) (λ y i j.
    let of : IsOf f y xs = from_flat_map f xs j in
    h.0 (subst (λ z. In z xs) (sym (one x of.source y i of.has)) of.member))

distinct_range : (a n : ℕ) → IsDistinct (range_with_len a n)
distinct_range a zero = tt
distinct_range a (suc n) = ((λ i. let r = from_range (a + 1) n i in omega (arith, r.0)), distinct_range (a + 1) n)

-- two places of a list without repeats that hold the same are one
distinct_places : {X : Type 0} (xs : List X) (d : X) (a b : ℕ) → IsDistinct xs → a < length xs → b < length xs → get_or xs a d ≡ get_or xs b d → a ≡ b
distinct_places [] d a b h in_a in_b e = absurd (omega arith)
distinct_places (x ∷ xs) d zero zero h in_a in_b e = refl
distinct_places (x ∷ xs) d zero (suc b) h in_a in_b e = absurd (h.0 (subst (λ y. In y xs) (sym e) (In-get_or xs b d (omega arith))))
distinct_places (x ∷ xs) d (suc a) zero h in_a in_b e = absurd (h.0 (subst (λ y. In y xs) e (In-get_or xs a d (omega arith))))
distinct_places (x ∷ xs) d (suc a) (suc b) h in_a in_b e = ap suc (distinct_places xs d a b h.1 (omega arith) (omega arith) e)

-- the pairs of one first number below n
abbrev pairs_with : ℕ → ℕ → List (ℕ × ℕ)
pairs_with n i = map (λ j. (i, j)) (filter (nat_lt i) (range_with_len 0 n))

pub distinct_pairs : (p : Problem) → IsDistinct (pairs p)
distinct_pairs p =
    let all = distinct_flat_map (pairs_with (concept_count p)) (concepts p)
    (λ i. distinct_map (λ (j : ℕ). (i, j)) (filter (nat_lt i) (concepts p)) (λ a b e. ap {A = ℕ × ℕ} (λ pair. pair.1) e) (distinct_filter (nat_lt i) (concepts p) (distinct_range 0 (concept_count p))))
    (λ a b y i j.
    let left : IsImage (λ j. (a, j)) y (filter (nat_lt a) (concepts p)) = from_map (λ j. (a, j)) (filter (nat_lt a) (concepts p)) i in
    let right : IsImage (λ j. (b, j)) y (filter (nat_lt b) (concepts p)) = from_map (λ j. (b, j)) (filter (nat_lt b) (concepts p)) j in
    ap {A = ℕ × ℕ} (λ pair. pair.0) (sym left.is ∙ right.is))
    (distinct_range 0 (concept_count p)) in
    distinct_append (filter (is_cross p) (all_pairs p)) (filter (λ pair. not (is_cross p pair)) (all_pairs p))
    (distinct_filter (is_cross p) (all_pairs p) all) (distinct_filter (λ pair. not (is_cross p pair)) (all_pairs p) all)
    (λ pair i j. both_ways (is_cross p pair) (not-true (is_cross p pair) (from_filter (λ pair. not (is_cross p pair)) (all_pairs p) j).1) (from_filter (is_cross p) (all_pairs p) i).1)

pub pairs_once : (p : Problem) (a b : ℕ) → a < pair_count p → b < pair_count p → pair_at p a ≡ pair_at p b → a ≡ b
pairs_once p a b in_a in_b e = distinct_places (pairs p) (0, 0) a b (distinct_pairs p) in_a in_b e

-- how many of a range are above a number
above_all : (i b n : ℕ) → i < b → length (filter (nat_lt i) (range_with_len b n)) ≡ n
above_all i b zero h = refl
above_all i b (suc n) h = rw (lt-ltb i b h) (ap suc (above_all i (b + 1) n (omega arith)))

above_some : (i b n k : ℕ) → b ≤ i + 1 → (i + 1) + k ≡ b + n → length (filter (nat_lt i) (range_with_len b n)) ≡ k
above_some i b zero k low e = omega arith
above_some i b (suc n) k low e = elim (cases_lt i b) [
  | inl above ↦ above_all i b (suc n) above ∙ omega arith
  | inr below ↦ rw (le-ltb i b below) (above_some i (b + 1) n k (omega arith) (omega arith))
]

count_from : (n a k : ℕ) → a + k ≡ n → 2 * length (flat_map (pairs_with n) (range_with_len a k)) ≡ k * (k - 1)
count_from n a zero e = refl
count_from n a (suc k) e =
    let head : length (pairs_with n a) ≡ k =
    length-map {B = ℕ × ℕ} (filter (nat_lt a) (range_with_len 0 n)) (λ j. (a, j)) ∙ above_some a 0 n k (omega arith) (omega arith) in
    count_step k (length (pairs_with n a)) (length (flat_map (pairs_with n) (range_with_len (a + 1) k))) (length (flat_map (pairs_with n) (range_with_len a (suc k))))
    (length-append (pairs_with n a) (flat_map (pairs_with n) (range_with_len (a + 1) k))) head (count_from n (a + 1) k (omega arith))
  where
    count_step : (k h r t : ℕ) → t ≡ h + r → h ≡ k → 2 * r ≡ k * (k - 1) → 2 * t ≡ suc k * (suc k - 1)
    count_step zero h r t e f g = omega arith
    count_step (suc k) h r t e f g =
        let one : suc (suc k) - 1 ≡ suc k = omega arith in
        let less : suc k - 1 ≡ k = omega arith in
        let g' = rw less at g in
        rw one (omega arith)

pub pairs_number : (p : Problem) → 2 * pair_count p ≡ concept_count p * (concept_count p - 1)
pairs_number p =
    let split = length-filter_both (is_cross p) (λ pair. not (is_cross p pair)) (λ pair. refl) (all_pairs p) in
    let both = length-append (filter (is_cross p) (all_pairs p)) (filter (λ pair. not (is_cross p pair)) (all_pairs p)) in
    ap (λ n. 2 * n) (both ∙ split) ∙ count_from (concept_count p) 0 (concept_count p) (omega arith)

-- sets of relations that have the same relations are one
pub same_sets : (a b : RelSet) → ((rel : Rel) → has a rel ≡ has b rel) → a ≡ b
same_sets a b same =
    let e : a.equals ≡ b.equals = same Equals in
    let i : a.includes ≡ b.includes = same Includes in
    let n : a.included_in ≡ b.included_in = same IncludedIn in
    let o : a.overlaps ≡ b.overlaps = same Overlaps in
    let d : a.disjoint ≡ b.disjoint = same Disjoint in
    let whole : record { equals = a.equals; includes = a.includes; included_in = a.included_in; overlaps = a.overlaps; disjoint = a.disjoint } ≡ b = rw (e, i, n, o, d) refl in
    whole

both_of_assoc : (a b c : RelSet) → both_of a (both_of b c) ≡ both_of (both_of a b) c
both_of_assoc a b c = same_sets (both_of a (both_of b c)) (both_of (both_of a b) c) (λ rel.
    has-both_of a (both_of b c) rel ∙ ap (λ r. has a rel && r) (has-both_of b c rel) ∙ sym (and_assoc (has a rel) (has b rel) (has c rel)) ∙
    sym (ap (λ l. l && has c rel) (has-both_of a b rel)) ∙ sym (has-both_of (both_of a b) c rel))

and_true : (b : Bool) → (b && true) ≡ b
and_true true = refl
and_true false = refl

pub both_of_every : (a : RelSet) → both_of a every_rel ≡ a
both_of_every a = same_sets (both_of a every_rel) a (λ rel. has-both_of a every_rel rel ∙ ap (λ r. has a rel && r) (has-every_rel rel) ∙ and_true (has a rel))

-- what statements have in common that come one after the other
pub said_of-append : (pair : ℕ × ℕ) (cs ds : List Constraint) → said_of pair (cs ++ ds) ≡ both_of (said_of pair cs) (said_of pair ds)
said_of-append pair [] ds = refl
said_of-append pair (c ∷ cs) ds = split (is_about pair c) (said_of-append pair cs ds)
  where
    split : (b : Bool) → said_of pair (cs ++ ds) ≡ both_of (said_of pair cs) (said_of pair ds) →
        meet_of (map (λ c. c.set) (cond b (c ∷ filter (is_about pair) (cs ++ ds)) (filter (is_about pair) (cs ++ ds)))) ≡
        both_of (meet_of (map (λ c. c.set) (cond b (c ∷ filter (is_about pair) cs) (filter (is_about pair) cs)))) (said_of pair ds)
    split true e = ap (both_of c.set) e ∙ both_of_assoc c.set (said_of pair cs) (said_of pair ds)
    split false e = e

-- narrowings of other pairs say nothing of a pair
narrows_none : (pair : ℕ × ℕ) (qs : List (ℕ × ℕ)) (m : List Rel) → (In pair qs → ⊥) → said_of pair (narrowings_at qs m) ≡ every_rel
narrows_none pair [] m h = refl
narrows_none pair (q ∷ qs) [] h = refl
narrows_none pair (q ∷ qs) (rel ∷ m) h =
    let other : is_about pair (record { left = q.0; right = q.1; set = only rel }) ≡ false =
    false_from_ne_true _ (λ about. h (here (same_pair (about_is pair (record { left = q.0; right = q.1; set = only rel }) about)))) in
    rw other (narrows_none pair qs m (λ i. h (there i)))
  where
    same_pair : (q.0 ≡ pair.0) × (q.1 ≡ pair.1) → pair ≡ q
    same_pair e = ap {B = ℕ × ℕ} (λ l. (l, pair.1)) (sym e.0) ∙ ap {B = ℕ × ℕ} (λ r. (q.0, r)) (sym e.1)

other_pair : (q : ℕ × ℕ) (qs : List (ℕ × ℕ)) (rel : Rel) (k : ℕ) → (In q qs → ⊥) → k < length qs →
    is_about (get_or qs k (0, 0)) (record { left = q.0; right = q.1; set = only rel }) ≡ false
other_pair q qs rel k h within = false_from_ne_true _ (λ about.
    let e = about_is (get_or qs k (0, 0)) (record { left = q.0; right = q.1; set = only rel }) about in
    h (subst (λ r. In r qs) (ap {B = ℕ × ℕ} (λ l. (l, (get_or qs k (0, 0)).1)) (sym e.0) ∙ ap {B = ℕ × ℕ} (λ r. (q.0, r)) (sym e.1)) (In-get_or qs k (0, 0) within)))

narrows_beyond : (qs : List (ℕ × ℕ)) (m : List Rel) (k : ℕ) → IsDistinct qs → length m ≤ k → k < length qs → said_of (get_or qs k (0, 0)) (narrowings_at qs m) ≡ every_rel
narrows_beyond [] m k h past within = absurd (omega arith)
narrows_beyond (q ∷ qs) [] k h past within = refl
narrows_beyond (q ∷ qs) (rel ∷ m) zero h past within = absurd (omega arith)
narrows_beyond (q ∷ qs) (rel ∷ m) (suc k) h past within =
    let other = other_pair q qs rel k h.0 (omega arith) in
    rw other (narrows_beyond qs m k h.1 (omega arith) (omega arith))

narrows_inside : (qs : List (ℕ × ℕ)) (m : List Rel) (k : ℕ) → IsDistinct qs → k < length m → k < length qs →
    said_of (get_or qs k (0, 0)) (narrowings_at qs m) ≡ only (get_or m k Equals)
narrows_inside [] m k h in_m within = absurd (omega arith)
narrows_inside (q ∷ qs) [] k h in_m within = absurd (omega arith)
narrows_inside (q ∷ qs) (rel ∷ m) zero h in_m within =
    let own : is_about q (record { left = q.0; right = q.1; set = only rel }) ≡ true = about_from q (record { left = q.0; right = q.1; set = only rel }) refl refl in
    rw own (ap (both_of (only rel)) (narrows_none q qs m h.0) ∙ both_of_every (only rel))
narrows_inside (q ∷ qs) (rel ∷ m) (suc k) h in_m within =
    let other = other_pair q qs rel k h.0 (omega arith) in
    rw other (narrows_inside qs m k h.1 (omega arith) (omega arith))

-- what a position adds to what a pair allows
narrowed_is : (p : Problem) (m : List Rel) (pair : ℕ × ℕ) → allowed (problem_at p m) pair ≡ both_of (allowed p pair) (said_of pair (narrowings_at (pairs p) m))
narrowed_is p m pair =
    ap (said_of pair) (sym (append_assoc (filter_map as_constraint (kept_articulations p)) p.narrowings (narrowings_at (pairs p) m))) ∙
    said_of-append pair (constraints p) (narrowings_at (pairs p) m)

pub narrowed_inside : (p : Problem) (m : List Rel) (k : ℕ) → k < length m → k < pair_count p →
    allowed (problem_at p m) (pair_at p k) ≡ both_of (allowed p (pair_at p k)) (only (slice_index_or m k Equals))
narrowed_inside p m k in_m within =
    narrowed_is p m (pair_at p k) ∙ ap (both_of (allowed p (pair_at p k))) (narrows_inside (pairs p) m k (distinct_pairs p) in_m within)

pub narrowed_beyond : (p : Problem) (m : List Rel) (k : ℕ) → length m ≤ k → k < pair_count p → allowed (problem_at p m) (pair_at p k) ≡ allowed p (pair_at p k)
narrowed_beyond p m k past within =
    narrowed_is p m (pair_at p k) ∙ ap (both_of (allowed p (pair_at p k))) (narrows_beyond (pairs p) m k (distinct_pairs p) past within) ∙ both_of_every (allowed p (pair_at p k))

no_narrowings : (qs : List (ℕ × ℕ)) → narrowings_at qs [] ≡ []
no_narrowings [] = refl
no_narrowings (q ∷ qs) = refl

pub at_empty : (p : Problem) → problem_at p [] ≡ p
at_empty p = ap {B = Problem} (λ ns. record p { narrowings = ns }) (ap (λ ns. p.narrowings ++ ns) (no_narrowings (pairs p)) ∙ append-nil p.narrowings)
