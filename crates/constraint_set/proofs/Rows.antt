-- The pairs, row by row.
use Rattle.std.proofs.Common.{◌≡◌, ℕ, zero, suc, ◌+◌, ◌-◌, ◌*◌, ◌^◌, ◌<◌, ◌≤◌, Bool, true, false, not, eqb, List, [], ◌∷◌, ◌++◌, map, length, get_or, refl, sym, ap, ◌∙◌, subst, arith, length-append, inl, inr}
use Rattle.std.specs.Prelude.{nat_lt, filter, flat_map}
use Rattle.std.specs.List.{range_with_len}
use Rattle.std.proofs.lemmas.Bool.{lt-ltb, le-ltb, eq-eqb, eqb-true, false_from_ne_true, cases_lt}
use Rattle.std.proofs.lemmas.List.{append_assoc, get_or_at, get_or_read, get_or_past, get_or-append-add, get_or_append_left}
use Rattle.std.proofs.lemmas.List.Concat.{flat_map-append}
use Rattle.std.proofs.lemmas.List.FromFn.{length-range_with_len}
use Rattle.std.proofs.Math.Nat.{mul-le-mul}
use Rattle.world_model.specs.Problem.{Problem, concepts, concept_count, is_cross, all_pairs, pairs, pair_count, cross_pairs}
use Rattle.world_model.specs.Node.{pair_at}
use Rattle.world_model.proofs.PointOnce.{pairs_number}
use Rattle.world_model.proofs.Members.{In, from_range}
use Rattle.constraint_set.specs.Numbers.{with_owners, IsBlockEnd, AreBlockEnds, AreStarts, IsNumbering, row, cross_row, inside_row, rows}
use Rattle.constraint_set.proofs.Lists.{range_split, range_more, filter-append, filter_kept, filter_dropped, filter-map, filter-flat_map, flat_map_same}

-- the pairs of a concept with some others
abbrev mine_of : ℕ → List ℕ → List (ℕ × ℕ)
mine_of c = map {B = ℕ × ℕ} (λ d. (c, d))

-- the concepts above one
above : (c n : ℕ) → c < n → filter (nat_lt c) (range_with_len 0 n) ≡ range_with_len (c + 1) (n - (c + 1))
above c n h =
    let e : n ≡ (c + 1) + (n - (c + 1)) = omega arith in
    let z : 0 + (c + 1) ≡ c + 1 = omega arith in
    ap (λ m. filter (nat_lt c) (range_with_len 0 m)) e
    ∙ ap (filter (nat_lt c)) (range_split 0 (c + 1) (n - (c + 1)))
    ∙ filter-append (nat_lt c) (range_with_len 0 (c + 1)) (range_with_len (0 + (c + 1)) (n - (c + 1)))
    ∙ ap (λ l. l ++ filter (nat_lt c) (range_with_len (0 + (c + 1)) (n - (c + 1)))) (filter_dropped (nat_lt c) (range_with_len 0 (c + 1)) (λ x i. le-ltb c x (let r = from_range 0 (c + 1) i in omega (arith, r.1))))
    ∙ filter_kept (nat_lt c) (range_with_len (0 + (c + 1)) (n - (c + 1))) (λ x i. lt-ltb c x (let r = from_range (0 + (c + 1)) (n - (c + 1)) i in omega (arith, r.0)))
    ∙ ap (λ a. range_with_len a (n - (c + 1))) z

-- the pairs of one concept: those with its own taxonomy, then those with later ones
parted : (owners : List ℕ) (c e : ℕ) → IsBlockEnd owners c e →
    mine_of c (filter (nat_lt c) (concepts (with_owners owners))) ≡ row c (c + 1) e ++ row c e (length owners)
parted owners c e h =
    let n = length owners in
    let s : n - (c + 1) ≡ (e - (c + 1)) + (n - e) = omega (arith, h.after, h.within) in
    let t : (c + 1) + (e - (c + 1)) ≡ e = omega (arith, h.after) in
    ap (mine_of c) (above c n (omega (arith, h.after, h.within))
    ∙ ap (range_with_len (c + 1)) s
    ∙ range_split (c + 1) (e - (c + 1)) (n - e)
    ∙ ap (λ a. range_with_len (c + 1) (e - (c + 1)) ++ range_with_len a (n - e)) t)
    ∙ map_append (range_with_len (c + 1) (e - (c + 1))) (range_with_len e (n - e))
  where
    map_append : (xs ys : List ℕ) → mine_of c (xs ++ ys) ≡ mine_of c xs ++ mine_of c ys
    map_append [] ys = refl
    map_append (x ∷ xs) ys = ap (λ l. (c, x) ∷ l) (map_append xs ys)

inside_is : (owners : List ℕ) (c e d : ℕ) → IsBlockEnd owners c e → In d (range_with_len (c + 1) (e - (c + 1))) → is_cross (with_owners owners) (c, d) ≡ false
inside_is owners c e d h i =
    let r = from_range (c + 1) (e - (c + 1)) i in
    ap not (eq-eqb (get_or owners c 0) (get_or owners d 0) (sym (h.same d (omega (arith, r.0)) (omega (arith, r.0, r.1)))))

cross_is : (owners : List ℕ) (c e d : ℕ) → IsBlockEnd owners c e → In d (range_with_len e (length owners - e)) → is_cross (with_owners owners) (c, d) ≡ true
cross_is owners c e d h i =
    let r = from_range e (length owners - e) i in
    ap not (false_from_ne_true (eqb (get_or owners c 0) (get_or owners d 0)) (λ same.
    h.other d r.0 (omega (arith, r.0, r.1)) (sym (eqb-true (get_or owners c 0) (get_or owners d 0) same))))

cross_part : (owners : List ℕ) (c e : ℕ) → IsBlockEnd owners c e →
    filter (is_cross (with_owners owners)) (mine_of c (filter (nat_lt c) (concepts (with_owners owners)))) ≡ row c e (length owners)
cross_part owners c e h =
    let test = is_cross (with_owners owners) in
    ap (filter test) (parted owners c e h)
    ∙ filter-append test (row c (c + 1) e) (row c e (length owners))
    ∙ ap (λ l. l ++ filter test (row c e (length owners)))
    (filter-map {Y = ℕ × ℕ} test (λ d. (c, d)) (range_with_len (c + 1) (e - (c + 1)))
    ∙ ap (mine_of c) (filter_dropped (λ d. test (c, d)) (range_with_len (c + 1) (e - (c + 1))) (λ d i. inside_is owners c e d h i)))
    ∙ filter-map {Y = ℕ × ℕ} test (λ d. (c, d)) (range_with_len e (length owners - e))
    ∙ ap (mine_of c) (filter_kept (λ d. test (c, d)) (range_with_len e (length owners - e)) (λ d i. cross_is owners c e d h i))

inside_part : (owners : List ℕ) (c e : ℕ) → IsBlockEnd owners c e →
    filter (λ pair. not (is_cross (with_owners owners) pair)) (mine_of c (filter (nat_lt c) (concepts (with_owners owners)))) ≡ row c (c + 1) e
inside_part owners c e h =
    let test : ℕ × ℕ → Bool = λ pair. not (is_cross (with_owners owners) pair) in
    ap (filter test) (parted owners c e h)
    ∙ filter-append test (row c (c + 1) e) (row c e (length owners))
    ∙ ap (λ l. l ++ filter test (row c e (length owners)))
    (filter-map {Y = ℕ × ℕ} test (λ d. (c, d)) (range_with_len (c + 1) (e - (c + 1)))
    ∙ ap (mine_of c) (filter_kept (λ d. test (c, d)) (range_with_len (c + 1) (e - (c + 1))) (λ d i. ap not (inside_is owners c e d h i))))
    ∙ ap (λ l. row c (c + 1) e ++ l)
    (filter-map {Y = ℕ × ℕ} test (λ d. (c, d)) (range_with_len e (length owners - e))
    ∙ ap (mine_of c) (filter_dropped (λ d. test (c, d)) (range_with_len e (length owners - e)) (λ d i. ap not (cross_is owners c e d h i))))
    ∙ append_none (row c (c + 1) e)
  where
    append_none : (xs : List (ℕ × ℕ)) → xs ++ [] ≡ xs
    append_none [] = refl
    append_none (x ∷ xs) = ap (λ l. x ∷ l) (append_none xs)

-- the cross pairs are the cross rows, one after another, and the pairs are these and then the inside rows
pub cross_rows_are : (owners ends : List ℕ) → AreBlockEnds owners ends → rows (cross_row ends) (length ends) ≡ cross_pairs (with_owners owners)
cross_rows_are owners ends h =
    ap (λ n. flat_map (λ c. row c (get_or ends c 0) n) (range_with_len 0 n)) h.counted
    ∙ sym (filter-flat_map (is_cross (with_owners owners)) (λ (c : ℕ). mine_of c (filter (nat_lt c) (concepts (with_owners owners)))) (range_with_len 0 (length owners))
    ∙ flat_map_same _ _ (range_with_len 0 (length owners)) (λ c i. cross_part owners c (get_or ends c 0) (h.each c (let r = from_range 0 (length owners) i in omega (arith, r.1)))))

pub inside_rows_are : (owners ends : List ℕ) → AreBlockEnds owners ends →
    rows (inside_row ends) (length ends) ≡ filter (λ pair. not (is_cross (with_owners owners) pair)) (all_pairs (with_owners owners))
inside_rows_are owners ends h =
    ap (λ n. rows (inside_row ends) n) h.counted
    ∙ sym (filter-flat_map (λ pair. not (is_cross (with_owners owners) pair)) (λ (c : ℕ). mine_of c (filter (nat_lt c) (concepts (with_owners owners)))) (range_with_len 0 (length owners))
    ∙ flat_map_same _ _ (range_with_len 0 (length owners)) (λ c i. inside_part owners c (get_or ends c 0) (h.each c (let r = from_range 0 (length owners) i in omega (arith, r.1)))))

pub rows-more : (of : ℕ → List (ℕ × ℕ)) (n : ℕ) → rows of (n + 1) ≡ rows of n ++ of n
rows-more of n = ap (flat_map of) (range_more n) ∙ flat_map-append of (range_with_len 0 n) (n ∷ []) ∙ ap (λ l. rows of n ++ l) (one (of n))
  where
    one : (xs : List (ℕ × ℕ)) → xs ++ [] ≡ xs
    one [] = refl
    one (x ∷ xs) = ap (λ l. x ∷ l) (one xs)

-- the length of a row, and what it has at a place
length-row : (c from to : ℕ) → length (row c from to) ≡ to - from
length-row c from to = length-map (range_with_len from (to - from)) ∙ length-range_with_len from (to - from)
  where
    length-map : (xs : List ℕ) → length (mine_of c xs) ≡ length xs
    length-map [] = refl
    length-map (x ∷ xs) = ap suc (length-map xs)

get_or-row : (c from to k : ℕ) → k < to - from → get_or (row c from to) k (0, 0) ≡ (c, from + k)
get_or-row c from to k h = at from (to - from) k h
  where
    at : (a n k : ℕ) → k < n → get_or (mine_of c (range_with_len a n)) k (0, 0) ≡ (c, a + k)
    at a zero k h = absurd (omega arith)
    at a (suc n) zero h = let e : a ≡ a + 0 = omega arith in ap (λ d. (c, d)) e
    at a (suc n) (suc k) h = let e : a + 1 + k ≡ a + suc k = omega arith in at (a + 1) n k (omega arith) ∙ ap (λ d. (c, d)) e

pub row_more : (c from to : ℕ) → from ≤ to → row c from (to + 1) ≡ row c from to ++ ((c, to) ∷ [])
row_more c from to h =
    let e : to + 1 - from ≡ (to - from) + 1 = omega arith in
    let f : from + (to - from) ≡ to = omega arith in
    ap (λ n. mine_of c (range_with_len from n)) e
    ∙ ap (mine_of c) (range_split from (to - from) 1)
    ∙ map_append (range_with_len from (to - from)) ((from + (to - from)) ∷ [])
    ∙ ap (λ d. row c from to ++ ((c, d) ∷ [])) f
  where
    map_append : (xs ys : List ℕ) → mine_of c (xs ++ ys) ≡ mine_of c xs ++ mine_of c ys
    map_append [] ys = refl
    map_append (x ∷ xs) ys = ap (λ l. (c, x) ∷ l) (map_append xs ys)

pub row_end : (c from to to' : ℕ) → to - from ≡ to' - from → row c from to ≡ row c from to'
row_end c from to to' e = ap (λ n. mine_of c (range_with_len from n)) e

-- what the rows have at a place in one of them
rows_at : (of : ℕ → List (ℕ × ℕ)) (n c k : ℕ) → c < n → k < length (of c) → get_or (rows of n) (length (rows of c) + k) (0, 0) ≡ get_or (of c) k (0, 0)
rows_at of n c k h in_row =
    let e : n ≡ c + suc (n - c - 1) = omega arith in
    let z : 0 + c ≡ c = omega arith in
    ap (λ m. get_or (flat_map of (range_with_len 0 m)) (length (rows of c) + k) (0, 0)) e
    ∙ ap (λ l. get_or (flat_map of l) (length (rows of c) + k) (0, 0)) (range_split 0 c (suc (n - c - 1)))
    ∙ ap (λ l. get_or l (length (rows of c) + k) (0, 0)) (flat_map-append of (range_with_len 0 c) (range_with_len (0 + c) (suc (n - c - 1))))
    ∙ get_or-append-add (rows of c) (flat_map of (range_with_len (0 + c) (suc (n - c - 1)))) k (0, 0)
    ∙ ap (λ m. get_or (of m ++ flat_map of (range_with_len (0 + c + 1) (n - c - 1))) k (0, 0)) z
    ∙ get_or_append_left (of c) (flat_map of (range_with_len (0 + c + 1) (n - c - 1))) (0, 0) k in_row

-- the pairs, as rows
pairs_are : (owners ends : List ℕ) → AreBlockEnds owners ends → pairs (with_owners owners) ≡ rows (cross_row ends) (length ends) ++ rows (inside_row ends) (length ends)
pairs_are owners ends h = sym (ap (λ l. l ++ rows (inside_row ends) (length ends)) (cross_rows_are owners ends h) ∙ ap (λ l. cross_pairs (with_owners owners) ++ l) (inside_rows_are owners ends h))

-- a place in the first of two lists of rows, and in the second
first_rows_at : (of other : ℕ → List (ℕ × ℕ)) (n c k : ℕ) → c < n → k < length (of c) →
    get_or (rows of n ++ rows other n) (length (rows of c) + k) (0, 0) ≡ get_or (of c) k (0, 0)
first_rows_at of other n c k h in_row =
    get_or_append_left (rows of n) (rows other n) (0, 0) (length (rows of c) + k) (room of n c k h in_row)
    ∙ rows_at of n c k h in_row
  where
    room : (of : ℕ → List (ℕ × ℕ)) (n c k : ℕ) → c < n → k < length (of c) → length (rows of c) + k < length (rows of n)
    room of n c k h in_row =
        let e : n ≡ c + 1 + (n - (c + 1)) = omega arith in
        let whole : length (rows of n) ≡ length (rows of (c + 1)) + length (flat_map of (range_with_len (0 + (c + 1)) (n - (c + 1)))) =
        ap (λ m. length (rows of m)) e
        ∙ ap (λ l. length (flat_map of l)) (range_split 0 (c + 1) (n - (c + 1)))
        ∙ ap length (flat_map-append of (range_with_len 0 (c + 1)) (range_with_len (0 + (c + 1)) (n - (c + 1))))
        ∙ length-append (rows of (c + 1)) (flat_map of (range_with_len (0 + (c + 1)) (n - (c + 1)))) in
        let one : length (rows of (c + 1)) ≡ length (rows of c) + length (of c) = ap length (rows-more of c) ∙ length-append (rows of c) (of c) in
        omega (arith, whole, one)

-- a pair across taxonomies stands in the cross row of its first concept, and a pair inside one in the inside row
pub crossing_at : (owners ends crossing inside : List ℕ) (numbered : List (ℕ × ℕ)) (cross : ℕ) → IsNumbering owners ends crossing inside numbered cross →
    (x y : ℕ) → x < y → y < length owners → get_or ends x 0 ≤ y →
    pair_at (with_owners owners) (get_or crossing x 0 + (y - get_or ends x 0)) ≡ (x, y)
crossing_at owners ends crossing inside numbered cross s x y order within past =
    let n = length ends in
    let e = get_or ends x 0 in
    let start : get_or crossing x 0 ≡ 0 + length (rows (cross_row ends) x) = s.cross_starts.each x (omega arith) in
    let from : get_or crossing x 0 + (y - e) ≡ length (rows (cross_row ends) x) + (y - e) = omega (arith, start) in
    let is_y : e + (y - e) ≡ y = omega arith in
    let long : length (cross_row ends x) ≡ n - e = length-row x e n in
    let counted : length ends ≡ length owners = s.ends_hold.counted in
    ap (λ k. get_or (pairs (with_owners owners)) k (0, 0)) from
    ∙ ap (λ l. get_or l (length (rows (cross_row ends) x) + (y - e)) (0, 0)) (pairs_are owners ends s.ends_hold)
    ∙ first_rows_at (cross_row ends) (inside_row ends) n x (y - e) (omega (arith, counted)) (omega (arith, long, counted))
    ∙ get_or-row x e n (y - e) (omega (arith, counted))
    ∙ ap (λ d. (x, d)) is_y

pub inside_at : (owners ends crossing inside : List ℕ) (numbered : List (ℕ × ℕ)) (cross : ℕ) → IsNumbering owners ends crossing inside numbered cross →
    (x y : ℕ) → x < y → y < length owners → y < get_or ends x 0 →
    pair_at (with_owners owners) (get_or inside x 0 + (y - x - 1)) ≡ (x, y)
inside_at owners ends crossing inside numbered cross s x y order within before =
    let n = length ends in
    let e = get_or ends x 0 in
    let start : get_or inside x 0 ≡ cross + length (rows (inside_row ends) x) = s.inside_starts.each x (omega arith) in
    let many : cross ≡ length (rows (cross_row ends) n) = s.cross_counted ∙ ap length (sym (cross_rows_are owners ends s.ends_hold)) in
    let from : get_or inside x 0 + (y - x - 1) ≡ length (rows (cross_row ends) n) + (length (rows (inside_row ends) x) + (y - x - 1)) = omega (arith, start, many) in
    let is_y : x + 1 + (y - x - 1) ≡ y = omega arith in
    let long : length (inside_row ends x) ≡ e - (x + 1) = length-row x (x + 1) e in
    let counted : length ends ≡ length owners = s.ends_hold.counted in
    ap (λ k. get_or (pairs (with_owners owners)) k (0, 0)) from
    ∙ ap (λ l. get_or l (length (rows (cross_row ends) n) + (length (rows (inside_row ends) x) + (y - x - 1))) (0, 0)) (pairs_are owners ends s.ends_hold)
    ∙ get_or-append-add (rows (cross_row ends) n) (rows (inside_row ends) n) (length (rows (inside_row ends) x) + (y - x - 1)) (0, 0)
    ∙ rows_at (inside_row ends) n x (y - x - 1) (omega (arith, counted)) (omega (arith, long))
    ∙ get_or-row x (x + 1) e (y - x - 1) (omega arith)
    ∙ ap (λ d. (x, d)) is_y

-- a place that holds a pair with a second concept above 0 is one of the pairs
pub within_pairs : (p : Problem) (k x y : ℕ) → x < y → pair_at p k ≡ (x, y) → k < pair_count p
within_pairs p k x y order at = elim (cases_lt k (pair_count p)) [
  | inl below ↦ below
  | inr past ↦ let none : get_or (pairs p) k (0, 0) ≡ (0, 0) = get_or_past (pairs p) k (0, 0) past in
      let zeros : y ≡ 0 = ap (λ pair. pair.1) (sym at ∙ none) in absurd (omega (arith, zeros))
]

-- there are fewer than 2^20 pairs of 1,024 concepts
pub few_pairs : (p : Problem) → concept_count p ≤ 1024 → pair_count p < 2 ^ 20
few_pairs p h =
    let number : 2 * pair_count p ≡ concept_count p * (concept_count p - 1) = pairs_number p in
    let one_less : concept_count p - 1 ≤ 1023 = omega arith in
    let most : concept_count p * (concept_count p - 1) ≤ 1024 * 1023 = mul-le-mul {n₁ = concept_count p} {m₁ = concept_count p - 1} {n₂ = 1024} {m₂ = 1023} h one_less in
    omega (arith, number, most)

pub few_numbered : (owners ends crossing inside : List ℕ) (numbered : List (ℕ × ℕ)) (cross : ℕ) → IsNumbering owners ends crossing inside numbered cross → length numbered < 2 ^ 20
few_numbered owners ends crossing inside numbered cross s = omega (arith, ap length s.numbered_all, few_pairs (with_owners owners) s.few)

-- the two kinds of places, from what the code reads
pub at_inside : (owners ends crossing inside : List ℕ) (numbered : List (ℕ × ℕ)) (cross : ℕ) → IsNumbering owners ends crossing inside numbered cross →
    (x y end start : ℕ) → x < y → y < length owners → end ≡ get_or ends x end → start ≡ get_or inside x start → y < end →
    pair_at (with_owners owners) (start + (y - x - 1)) ≡ (x, y)
at_inside owners ends crossing inside numbered cross s x y end start order within end_is start_is before =
    let ended : end ≡ get_or ends x 0 = get_or_read ends x end (omega (arith, s.ends_hold.counted)) end_is 0 in
    let started : start ≡ get_or inside x 0 = get_or_read inside x start (omega (arith, s.inside_starts.counted)) start_is 0 in
    ap (λ k. pair_at (with_owners owners) (k + (y - x - 1))) started
    ∙ inside_at owners ends crossing inside numbered cross s x y order within (omega (arith, ended))

pub at_crossing : (owners ends crossing inside : List ℕ) (numbered : List (ℕ × ℕ)) (cross : ℕ) → IsNumbering owners ends crossing inside numbered cross →
    (x y end start : ℕ) → x < y → y < length owners → end ≡ get_or ends x end → start ≡ get_or crossing x start → end ≤ y →
    pair_at (with_owners owners) (start + (y - end)) ≡ (x, y)
at_crossing owners ends crossing inside numbered cross s x y end start order within end_is start_is past =
    let ended : end ≡ get_or ends x 0 = get_or_read ends x end (omega (arith, s.ends_hold.counted)) end_is 0 in
    let started : start ≡ get_or crossing x 0 = get_or_read crossing x start (omega (arith, s.cross_starts.counted)) start_is 0 in
    ap (λ k. pair_at (with_owners owners) (k + (y - end))) started
    ∙ ap (λ e. pair_at (with_owners owners) (get_or crossing x 0 + (y - e))) ended
    ∙ crossing_at owners ends crossing inside numbered cross s x y order within (omega (arith, ended))

-- such a place fits a u32
pub fits : (owners : List ℕ) (k x y : ℕ) → length owners ≤ 1024 → x < y → pair_at (with_owners owners) k ≡ (x, y) → k < 2 ^ 20
fits owners k x y few order at = omega (arith, within_pairs (with_owners owners) k x y order at, few_pairs (with_owners owners) few)

-- the rows of the first n concepts are there, after what was there before, with their starts
pub record RowsSoFar (of : ℕ → List (ℕ × ℕ)) (old : List (ℕ × ℕ)) (n : ℕ) (starts : List ℕ) (numbered : List (ℕ × ℕ)) : Type 0 where
  pub begun : AreStarts of (length old) n starts
  pub there : numbered ≡ old ++ rows of n
  pub grown : length numbered ≤ length old + 1024 * n

pub rows_none : (of : ℕ → List (ℕ × ℕ)) (old : List (ℕ × ℕ)) → RowsSoFar of old 0 [] old
rows_none of old = record {
  begun = record { counted = refl; each = λ c h. absurd (omega arith) };
  there = sym (append_none old);
  grown = omega arith;
}
  where
    append_none : (xs : List (ℕ × ℕ)) → xs ++ [] ≡ xs
    append_none [] = refl
    append_none (x ∷ xs) = ap (λ l. x ∷ l) (append_none xs)

pub rows_step : (of : ℕ → List (ℕ × ℕ)) (old : List (ℕ × ℕ)) (n : ℕ) (starts starts' : List ℕ) (numbered numbered' : List (ℕ × ℕ)) →
    RowsSoFar of old n starts numbered → starts' ≡ starts ++ length numbered ∷ [] → numbered' ≡ numbered ++ of n → length (of n) ≤ 1024 →
    RowsSoFar of old (n + 1) starts' numbered'
rows_step of old n starts starts' numbered numbered' s more grew short = record {
  begun = record {
    counted = ap length more ∙ length-append starts (length numbered ∷ []) ∙ ap (λ k. k + 1) s.begun.counted;
    each = λ c h. ap (λ l. get_or l c 0) more ∙ start c h;
  };
  there = grew ∙ ap (λ l. l ++ of n) s.there ∙ append_assoc old (rows of n) (of n) ∙ ap (λ l. old ++ l) (sym (rows-more of n));
  grown = omega (arith, ap length grew, length-append numbered (of n), s.grown);
}
  where
    length_is : length numbered ≡ length old + length (rows of n)
    length_is = ap length s.there ∙ length-append old (rows of n)

    start : (c : ℕ) → c < n + 1 → get_or (starts ++ length numbered ∷ []) c 0 ≡ length old + length (rows of c)
    start c h = elim (cases_lt c n) [
      | inl below ↦ get_or_append_left starts (length numbered ∷ []) 0 c (omega (arith, s.begun.counted)) ∙ s.begun.each c below
      | inr not_below ↦ let same : n ≡ c = omega arith in
          get_or_at starts (length numbered) [] 0 c (s.begun.counted ∙ same) ∙ length_is ∙ ap (λ m. length old + length (rows of m)) same
    ]

pub short_row : (c from to : ℕ) → to ≤ 1024 → length (row c from to) ≤ 1024
short_row c from to h = omega (arith, length-row c from to)

-- a numbering, from what the code made
pub numbering_made : (owners ends crossing inside : List ℕ) (first all : List (ℕ × ℕ)) (cross : ℕ) → length owners ≤ 1024 → AreBlockEnds owners ends →
    first ≡ [] ++ rows (cross_row ends) (length ends) → AreStarts (cross_row ends) 0 (length ends) crossing → cross ≡ length first →
    all ≡ first ++ rows (inside_row ends) (length ends) → AreStarts (inside_row ends) (length first) (length ends) inside →
    IsNumbering owners ends crossing inside all cross
numbering_made owners ends crossing inside first all cross few h first_is crossing_are cross_is all_is inside_are = record {
  few = few;
  ends_hold = h;
  cross_starts = subst (λ n. AreStarts (cross_row ends) 0 n crossing) h.counted crossing_are;
  inside_starts = subst (λ m. AreStarts (inside_row ends) m (length owners) inside) (sym cross_is) (subst (λ n. AreStarts (inside_row ends) (length first) n inside) h.counted inside_are);
  numbered_all = all_is ∙ ap (λ l. l ++ rows (inside_row ends) (length ends)) first_is ∙ sym (pairs_are owners ends h);
  cross_counted = cross_is ∙ ap length (first_is ∙ cross_rows_are owners ends h);
}
