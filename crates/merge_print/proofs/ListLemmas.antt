-- Ranges, filters and lists of lists.
use Rattle.std.proofs.Common.{◌≡◌, ◌+◌, ◌<◌, ◌≤◌, ℕ, Bool, true, false, cond, List, [], ◌∷◌, ◌++◌, Some, length, map, get_or, refl, sym, ap, subst, ◌∙◌, arith, append_assoc}
use Rattle.std.specs.Prelude.{filter, flat_map, find, All, slice_get}
use Rattle.std.specs.List.{range_with_len, list_any, position_or_len}
use Rattle.std.proofs.lemmas.List.{append-nil}
use Rattle.std.proofs.lemmas.List.Elements.{filter-append, All-head, All-tail, All-from_get_or, All-filter, All-weaker}
use Rattle.std.proofs.lemmas.List.Folds.{find_at}
use Rattle.std.proofs.lemmas.List.FromFn.{length-range_with_len, get_or-range_with_len, map-range_with_len_more}
use Rattle.std.proofs.lemmas.List.Sums.{position_or_len_is}
use Rattle.std.proofs.lemmas.Option.{slice_get-get_or}
use Rattle.std.proofs.lemmas.Grind.{flat_map-append}
use Rattle.constraint_set.proofs.Lists.{range_more, few_filtered}

-- one number more
pub filter_next : (p : ℕ → Bool) (n : ℕ) → filter p (range_with_len 0 (n + 1)) ≡ filter p (range_with_len 0 n) ++ cond (p n) (n ∷ []) []
filter_next p n = ap (filter p) (range_more n) ∙ filter-append p (range_with_len 0 n) (n ∷ [])

pub flat_map_next : {A : Type 0} (f : ℕ → List A) (n : ℕ) → flat_map f (range_with_len 0 (n + 1)) ≡ flat_map f (range_with_len 0 n) ++ f n
flat_map_next f n =
    ap (flat_map f) (range_more n) ∙ flat_map-append f (range_with_len 0 n) (n ∷ []) ∙ ap (λ r. flat_map f (range_with_len 0 n) ++ r) (append-nil (f n))

-- a loop over numbers that adds a number, or nothing
pub filter_took : (p : ℕ → Bool) (old new : List ℕ) (n : ℕ) → old ≡ filter p (range_with_len 0 n) → p n ≡ true → new ≡ old ++ n ∷ [] → new ≡ filter p (range_with_len 0 (n + 1))
filter_took p old new n was e more =
    more ∙ ap (λ l. l ++ n ∷ []) was ∙ sym (filter_next p n ∙ ap (λ b. filter p (range_with_len 0 n) ++ cond b (n ∷ []) []) e)

pub filter_left : (p : ℕ → Bool) (old : List ℕ) (n : ℕ) → old ≡ filter p (range_with_len 0 n) → p n ≡ false → old ≡ filter p (range_with_len 0 (n + 1))
filter_left p old n was e =
    was ∙ sym (filter_next p n ∙ ap (λ b. filter p (range_with_len 0 n) ++ cond b (n ∷ []) []) e ∙ append-nil (filter p (range_with_len 0 n)))

-- the numbers of a range are below its end
pub range_below : (n : ℕ) → All (λ x. x < n) (range_with_len 0 n)
range_below n = All-from_get_or (λ x. x < n) (range_with_len 0 n) 0 below
  where
    below : (i : ℕ) → i < length (range_with_len 0 n) → get_or (range_with_len 0 n) i 0 < n
    below i lt =
        let m = length-range_with_len 0 n in
        let l : i < n = omega arith in
        let e = get_or-range_with_len 0 n i 0 l in
        omega arith

pub filtered_below : (p : ℕ → Bool) (n : ℕ) → All (λ x. x < n) (filter p (range_with_len 0 n))
filtered_below p n = All-filter p (λ x. x < n) (range_with_len 0 n) (range_below n)

-- tests that agree on each member of a list
pub filter_same : {X : Type 0} (p q : X → Bool) (xs : List X) → All (λ x. p x ≡ q x) xs → filter p xs ≡ filter q xs
filter_same p q [] h = refl
filter_same p q (x ∷ xs) h =
    ap (λ b. cond b (x ∷ filter p xs) (filter p xs)) (All-head (λ x. p x ≡ q x) x xs h)
    ∙ ap (λ l. cond (q x) (x ∷ l) l) (filter_same p q xs (All-tail (λ x. p x ≡ q x) x xs h))

pub any_same : {X : Type 0} (p q : X → Bool) (xs : List X) → All (λ x. p x ≡ q x) xs → list_any p xs ≡ list_any q xs
any_same p q [] h = refl
any_same p q (x ∷ xs) h = rw (All-head (λ x. p x ≡ q x) x xs h, any_same p q xs (All-tail (λ x. p x ≡ q x) x xs h)) refl

pub flat_map_same : {X A : Type 0} (f g : X → List A) (xs : List X) → All (λ x. f x ≡ g x) xs → flat_map f xs ≡ flat_map g xs
flat_map_same f g [] h = refl
flat_map_same f g (x ∷ xs) h =
    ap (λ l. l ++ flat_map f xs) (All-head (λ x. f x ≡ g x) x xs h) ∙ ap (λ l. g x ++ l) (flat_map_same f g xs (All-tail (λ x. f x ≡ g x) x xs h))

-- the first number of a range that passes
pub first_found : (p : ℕ → Bool) (n i : ℕ) → i < n → ((k : ℕ) → k < i → p k ≡ false) → p i ≡ true → find p (range_with_len 0 n) ≡ Some i
first_found p n i lt before at =
    let m = length-range_with_len 0 n in
    let l : i < length (range_with_len 0 n) = omega arith in
    let first : position_or_len p (range_with_len 0 n) ≡ i =
    position_or_len_is p (range_with_len 0 n) i 0 (omega arith)
    (λ k h. let b : k < n = omega arith in ap p (get_or-range_with_len 0 n k 0 b ∙ (let z : 0 + k ≡ k = omega arith in z)) ∙ before k h)
    (λ h. ap p (get_or-range_with_len 0 n i 0 lt ∙ (let z : 0 + i ≡ i = omega arith in z)) ∙ at) in
    find_at p (range_with_len 0 n) ∙ ap (slice_get (range_with_len 0 n)) first ∙ slice_get-get_or (range_with_len 0 n) i 0 l
    ∙ ap Some (get_or-range_with_len 0 n i 0 lt ∙ (let z : 0 + i ≡ i = omega arith in z))

pub filtered_within : (p : ℕ → Bool) (xs : List ℕ) (n m : ℕ) → xs ≡ filter p (range_with_len 0 n) → n ≤ m → All (λ x. x < m) xs
filtered_within p xs n m e le =
    All-weaker (λ x. x < n) (λ x. x < m) (λ x h. omega arith) xs (subst (All (λ x. x < n)) (sym e) (filtered_below p n))

pub filtered_few : (p : ℕ → Bool) (xs : List ℕ) (n m : ℕ) → xs ≡ filter p (range_with_len 0 n) → n ≤ m → length xs ≤ m
filtered_few p xs n m e le = let f = few_filtered p n in let l = ap length e in omega arith

-- a loop over numbers that adds something for each
pub map_took : {X : Type 0} (f : ℕ → X) (old new : List X) (n : ℕ) (x : X) → old ≡ map f (range_with_len 0 n) → x ≡ f n → new ≡ old ++ x ∷ [] → new ≡ map f (range_with_len 0 (n + 1))
map_took f old new n x was is more =
    more ∙ ap (λ l. l ++ x ∷ []) was ∙ ap (λ y. map f (range_with_len 0 n) ++ y ∷ []) is ∙ sym (map-range_with_len_more f 0 n n (omega arith))

pub range_put : {A : Type 0} (f : ℕ → List A) (init out new : List A) (n : ℕ) → out ≡ init ++ flat_map f (range_with_len 0 n) → new ≡ out ++ f n → new ≡ init ++ flat_map f (range_with_len 0 (n + 1))
range_put f init out new n was more =
    more ∙ ap (λ o. o ++ f n) was ∙ append_assoc init (flat_map f (range_with_len 0 n)) (f n) ∙ ap (λ r. init ++ r) (sym (flat_map_next f n))
