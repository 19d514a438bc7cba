-- Lists that are sets, and the places of points.
use Rattle.std.proofs.Common.{◌≡◌, ℕ, ◌+◌, ◌<◌, ◌≤◌, Bool, true, false, ◌&&◌, cond, inl, inr, List, [], ◌∷◌, ◌++◌, map, refl, sym, ap, ◌∙◌, subst, IsTrue, arith, length, get_or, drop, zero, suc}
use Rattle.std.specs.Prelude.{nat_lt, nat_le, Some, None}
use Rattle.std.specs.List.{list_all, range_with_len}
use Rattle.std.proofs.lemmas.List.{drop_more, drop_all, length-map, get_or-map, map-append}
use Rattle.std.proofs.lemmas.List.FromFn.{map-range_with_len_more}
use Rattle.std.proofs.lemmas.Bool.{ltb-true, and_parts, and_from, lt-ltb, le-ltb, le-leb, lt-leb, cases_lt}
use Rattle.rcc5_core.specs.Relation.{is_ascending}
use Rattle.world_model.specs.Alive.{bit_of, places_with}
use Rattle.world_model.specs.Family.{Family}
use Rattle.std.proofs.lemmas.List.Folds.{list_all-map}
use Rattle.set_family.specs.Sets.{is_set_below, family_from}

-- places counted from k on are above each number below k
above_step : (m k : ℕ) (rest : List ℕ) (b : Bool) → m < k → list_all (λ y. nat_lt m y) rest ≡ true → list_all (λ y. nat_lt m y) (cond b (k ∷ rest) rest) ≡ true
above_step m k rest true h later = and_from (nat_lt m k) (list_all (λ y. nat_lt m y) rest) (lt-ltb m k h) later
above_step m k rest false h later = later

places_above : (c m k : ℕ) (points : List (List Bool)) → m < k → list_all (λ y. nat_lt m y) (places_with c k points) ≡ true
places_above c m k [] h = refl
places_above c m k (bits ∷ rest) h =
    above_step m k (places_with c (k + 1) rest) (bit_of bits c) h (places_above c m (k + 1) rest (omega arith))

-- they ascend
ascend_step : (k : ℕ) (rest : List ℕ) (b : Bool) → list_all (λ y. nat_lt k y) rest ≡ true → is_ascending rest ≡ true → is_ascending (cond b (k ∷ rest) rest) ≡ true
ascend_step k rest true above later = and_from (list_all (λ y. nat_lt k y) rest) (is_ascending rest) above later
ascend_step k rest false above later = later

places_ascend : (c k : ℕ) (points : List (List Bool)) → is_ascending (places_with c k points) ≡ true
places_ascend c k [] = refl
places_ascend c k (bits ∷ rest) =
    ascend_step k (places_with c (k + 1) rest) (bit_of bits c) (places_above c k (k + 1) rest (omega arith)) (places_ascend c (k + 1) rest)

-- and they are below their end
below_step : (k u : ℕ) (rest : List ℕ) (b : Bool) → k < u → list_all (λ x. nat_lt x u) rest ≡ true → list_all (λ x. nat_lt x u) (cond b (k ∷ rest) rest) ≡ true
below_step k u rest true h later = and_from (nat_lt k u) (list_all (λ x. nat_lt x u) rest) (lt-ltb k u h) later
below_step k u rest false h later = later

places_below : (c k u : ℕ) (points : List (List Bool)) → k + length points ≤ u → list_all (λ x. nat_lt x u) (places_with c k points) ≡ true
places_below c k u [] h = refl
places_below c k u (bits ∷ rest) h =
    below_step k u (places_with c (k + 1) rest) (bit_of bits c) (omega arith) (places_below c (k + 1) u rest (omega arith))

-- so the places of points are sets
pub all_places_are_sets : (points : List (List Bool)) (cs : List ℕ) → list_all (is_set_below (length points)) (map (λ c. places_with c 0 points) cs) ≡ true
all_places_are_sets points [] = refl
all_places_are_sets points (c ∷ cs) =
    and_from (is_set_below (length points) (places_with c 0 points)) (list_all (is_set_below (length points)) (map (λ c. places_with c 0 points) cs))
    (and_from (is_ascending (places_with c 0 points)) (list_all (λ x. nat_lt x (length points)) (places_with c 0 points)) (places_ascend c 0 points) (places_below c 0 (length points) points (omega arith)))
    (all_places_are_sets points cs)

-- each of a family's sets is ascending
pub ascending_at : (u i : ℕ) (sets : List (List ℕ)) → i < length sets → list_all (is_set_below u) sets ≡ true → IsTrue (is_ascending (get_or sets i []))
ascending_at u i [] below h = absurd (omega arith)
ascending_at u zero (xs ∷ sets) below h = (and_parts (is_ascending xs) (list_all (λ x. nat_lt x u) xs) (and_parts (is_set_below u xs) (list_all (is_set_below u) sets) h).0).0
ascending_at u (suc i) (xs ∷ sets) below h = ascending_at u i sets (omega arith) (and_parts (is_set_below u xs) (list_all (is_set_below u) sets) h).1

-- whether a list is a set of numbers below u and from the least on
unfoldable pub is_set_from : (least u : ℕ) → List ℕ → Bool
is_set_from least u xs = list_all (λ y. nat_le least y) xs && is_set_below u xs

all_from_zero : (xs : List ℕ) → list_all (λ y. nat_le 0 y) xs ≡ true
all_from_zero [] = refl
all_from_zero (x ∷ xs) = and_from (nat_le 0 x) (list_all (λ y. nat_le 0 y) xs) (le-leb 0 x (omega arith)) (all_from_zero xs)

pub set_start : (u : ℕ) (xs : List ℕ) → is_set_from 0 u xs ≡ is_set_below u xs
unfolding is_set_from
set_start u xs = rw (all_from_zero xs) refl

-- numbers from x + 1 on are those above x
same_from : (x y : ℕ) → nat_le (x + 1) y ≡ nat_lt x y
same_from x y = elim (cases_lt x y) [
  | inl less ↦ le-leb (x + 1) y (omega arith) ∙ sym (lt-ltb x y less)
  | inr more ↦ lt-leb (x + 1) y (omega arith) ∙ sym (le-ltb x y more)
]

all_same_from : (x : ℕ) (ys : List ℕ) → list_all (λ y. nat_le (x + 1) y) ys ≡ list_all (λ y. nat_lt x y) ys
all_same_from x [] = refl
all_same_from x (y ∷ ys) = rw (same_from x y, all_same_from x ys) refl

-- and those from any number up to x on
all_from_least : (least x : ℕ) (ys : List ℕ) → least ≤ x → list_all (λ y. nat_lt x y) ys ≡ true → list_all (λ y. nat_le least y) ys ≡ true
all_from_least least x [] h above = refl
all_from_least least x (y ∷ ys) h above =
    let parts = and_parts (nat_lt x y) (list_all (λ y. nat_lt x y) ys) above in
    let more : x < y = ltb-true x y parts.0 in
    let from : least ≤ y = omega arith in
    and_from (nat_le least y) (list_all (λ y. nat_le least y) ys) (le-leb least y from) (all_from_least least x ys h parts.1)

regroup : (above from sorted under : Bool) → (above ≡ true → from ≡ true) → (above && (sorted && under)) ≡ (from && ((above && sorted) && under))
regroup true from sorted under h = rw (h refl) refl
regroup false true sorted under h = refl
regroup false false sorted under h = refl

set_next : (least u x : ℕ) (xs : List ℕ) → least ≤ x → x < u → is_set_from (x + 1) u xs ≡ is_set_from least u (x ∷ xs)
unfolding is_set_from
set_next least u x xs low high =
    rw (le-leb least x low, lt-ltb x u high, all_same_from x xs)
    (regroup (list_all (λ y. nat_lt x y) xs) (list_all (λ y. nat_le least y) xs) (is_ascending xs) (list_all (λ y. nat_lt y u) xs) (all_from_least least x xs low))

set_low : (least u x : ℕ) (xs : List ℕ) → x < least → is_set_from least u (x ∷ xs) ≡ false
unfolding is_set_from
set_low least u x xs low = rw (lt-leb least x low) refl

none_under : (from sorted : Bool) → (from && (sorted && false)) ≡ false
none_under true true = refl
none_under true false = refl
none_under false sorted = refl

set_high : (least u x : ℕ) (xs : List ℕ) → u ≤ x → is_set_from least u (x ∷ xs) ≡ false
unfolding is_set_from
set_high least u x xs high = rw (le-ltb x u high) (none_under (list_all (λ y. nat_le least y) (x ∷ xs)) (is_ascending (x ∷ xs)))

-- one number after another
pub set_step : (least u : ℕ) (xs : List ℕ) (i : ℕ) → i < length xs → least ≤ get_or xs i 0 → get_or xs i 0 < u →
    is_set_from (get_or xs i 0 + 1) u (drop (i + 1) xs) ≡ is_set_from least u (drop i xs)
set_step least u xs i within low high =
    set_next least u (get_or xs i 0) (drop (i + 1) xs) low high ∙ sym (ap (is_set_from least u) (drop_more xs i 0 within))

pub set_step_low : (least u : ℕ) (xs : List ℕ) (i : ℕ) → i < length xs → get_or xs i 0 < least → is_set_from least u (drop i xs) ≡ false
set_step_low least u xs i within low = ap (is_set_from least u) (drop_more xs i 0 within) ∙ set_low least u (get_or xs i 0) (drop (i + 1) xs) low

pub set_step_high : (least u : ℕ) (xs : List ℕ) (i : ℕ) → i < length xs → u ≤ get_or xs i 0 → is_set_from least u (drop i xs) ≡ false
set_step_high least u xs i within high = ap (is_set_from least u) (drop_more xs i 0 within) ∙ set_high least u (get_or xs i 0) (drop (i + 1) xs) high

pub set_end : (least u : ℕ) (xs : List ℕ) (i : ℕ) → length xs ≤ i → is_set_from least u (drop i xs) ≡ true
unfolding is_set_from
set_end least u xs i done = ap (is_set_from least u) (drop_all i xs done)

-- a row of a family is ascending
pub ascending_in : {X : Type 0} (f : X → List ℕ) (u i : ℕ) (rows : List X) (row : X) (xs : List ℕ) → i < length (map f rows) →
    list_all (is_set_below u) (map f rows) ≡ true → row ≡ get_or rows i row → xs ≡ f row → IsTrue (is_ascending xs)
ascending_in f u i rows row xs within h is same =
    let inside : i < length rows = omega (arith, length-map rows f) in
    let e : get_or (map f rows) i [] ≡ xs = get_or-map f rows i row [] inside ∙ ap f (sym is) ∙ sym same in
    subst (λ r. IsTrue (is_ascending r)) e (ascending_at u i (map f rows) within h)

-- the sets of one more concept
pub sets_more : {X : Type 0} (f : X → List ℕ) (points : List (List Bool)) (i : ℕ) (rows more : List X) (row : X) →
    map f rows ≡ map (λ c. places_with c 0 points) (range_with_len 0 i) → more ≡ rows ++ row ∷ [] → f row ≡ places_with i 0 points →
    map f more ≡ map (λ c. places_with c 0 points) (range_with_len 0 (i + 1))
sets_more f points i rows more row so_far are is =
    ap (map f) are ∙ map-append f rows (row ∷ []) ∙
    (rw (so_far, is) (sym (map-range_with_len_more (λ c. places_with c 0 points) 0 i i (omega arith))))

-- what is tested of rows holds of the lists that they are
pub rows_pass : {X : Type 0} (f : X → List ℕ) (u : ℕ) (rows seen : List X) (b : Bool) → seen ≡ rows → b ≡ list_all (λ v. is_set_below u (f v)) seen →
    list_all (is_set_below u) (map f rows) ≡ b
rows_pass f u rows seen b same h =
    list_all-map (is_set_below u) f rows ∙ sym (h ∙ ap (list_all (λ v. is_set_below u (f v))) same)

-- the family of lists, by what is tested of them
pub family_by : (u : ℕ) (lists : List (List ℕ)) (b : Bool) → list_all (is_set_below u) lists ≡ b → cond b (Some (record { universe = u; sets = lists })) None ≡ family_from u lists
family_by u lists b h = let family : Family = record { universe = u; sets = lists } in ap (λ t. cond t (Some family) None) (sym h)
