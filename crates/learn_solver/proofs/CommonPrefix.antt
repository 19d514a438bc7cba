-- Lists that begin alike.
use Rattle.std.proofs.Common.{◌≡◌, ◌∙◌, ◌+◌, ◌-◌, ◌≤◌, ◌++◌, ℕ, List, [], min, length, take, drop, inl, inr, refl, sym, ap, arith, append_assoc, append-nil, length-append}
use Rattle.std.specs.Prelude.{Result, Ok, Err, OnOk, is_ok, if◌then◌else◌}
use Rattle.std.proofs.lemmas.Bool.{cases_lt}
use Rattle.std.proofs.lemmas.List.{take-append-drop, take-append-le, take-take, take_at, length-take-le, drop-take, drop-drop, drop-append-le, drop_at, drop_all, take_rest}

-- the first elements are some, and some behind them
take_plus : (n m : ℕ) (xs : List ℕ) → take (n + m) xs ≡ take n xs ++ take m (drop n xs)
take_plus n m xs =
    let parts = take-append-drop n (take (n + m) xs) in
    let front = take-take n (n + m) xs (omega arith) in
    let back = drop-take n m xs in
    cc

-- lists that begin alike, and go on alike
pub alike_further : (n m : ℕ) (xs ys : List ℕ) → take n xs ≡ take n ys → take m (drop n xs) ≡ take m (drop n ys) → take (n + m) xs ≡ take (n + m) ys
alike_further n m xs ys front back =
    let one = take_plus n m xs in
    let other = take_plus n m ys in
    cc

-- a list that begins as one does, and goes on as another does
pub alike_both : (n m : ℕ) (all xs ys : List ℕ) → n ≡ length xs → take n all ≡ take n xs → take m (take (length all - n) (drop n all)) ≡ take m ys → take (n + m) all ≡ take (n + m) (xs ++ ys)
alike_both n m all xs ys counted front back =
    alike_further n m all (xs ++ ys)
    (front ∙ sym (take-append-le n xs ys (omega arith)))
    (ap (take m) (sym (take_rest all n)) ∙ back ∙ ap (take m) (sym (drop_at xs ys n (sym counted))))

-- what stands behind the first elements of two lists
drop_both : (n first : ℕ) (xs ys : List ℕ) → first ≡ min n (length xs) → drop first xs ++ drop (n - first) ys ≡ drop n (xs ++ ys)
drop_both n first xs ys is = elim (cases_lt (length xs) n) [
  | inl past ↦
      let all : length xs ≡ first = omega arith in
      let sum : first + (n - first) ≡ n = omega arith in
      ap (λ (zs : List ℕ). zs ++ drop (n - first) ys) (drop_all first xs (omega arith))
      ∙ ap (drop (n - first)) (sym (drop_at xs ys first all))
      ∙ drop-drop (n - first) first (xs ++ ys)
      ∙ ap (λ (k : ℕ). drop k (xs ++ ys)) sum
  | inr within ↦
      let all : first ≡ n = omega arith in
      let none : n - first ≡ 0 = omega arith in
      ap (λ (k : ℕ). drop k xs ++ drop (n - first) ys) all
      ∙ ap (λ (k : ℕ). drop n xs ++ drop k ys) none
      ∙ sym (drop-append-le n xs ys within)
]

-- the first elements stay, and what stands behind them in two lists is added
both_added : (n first : ℕ) (old some xs ys : List ℕ) → first ≡ min n (length xs) → take n old ≡ take n (xs ++ ys) → some ≡ take n old ++ drop first xs → some ++ drop (n - first) ys ≡ xs ++ ys
both_added n first old some xs ys is same e =
    ap (λ (zs : List ℕ). zs ++ drop (n - first) ys) e
    ∙ append_assoc (take n old) (drop first xs) (drop (n - first) ys)
    ∙ ap (λ (zs : List ℕ). take n old ++ zs) (drop_both n first xs ys is)
    ∙ ap (λ (zs : List ℕ). zs ++ drop n (xs ++ ys)) same
    ∙ take-append-drop n (xs ++ ys)

-- lists to which these were added, the second one only where memory was found
pub record IsExtended {X Y : Type 0} (r : Result X Y) (n first : ℕ) (old some now xs ys : List ℕ) : Type 0 where
  pub is : first ≡ min n (length xs)
  pub within : n ≤ length old
  pub same : take n old ≡ take n (xs ++ ys)
  pub some_is : some ≡ take n old ++ take (length xs - first) (drop first xs)
  pub now_is : now ≡ (if is_ok r then some ++ take (length ys - (n - first)) (drop (n - first) ys) else some)

adds_both : {X Y : Type 0} (r : Result X Y) (n first : ℕ) (old some now xs ys : List ℕ) → IsExtended r n first old some now xs ys → some ++ drop (n - first) ys ≡ xs ++ ys
adds_both r n first old some now xs ys a = both_added n first old some xs ys a.is a.same (a.some_is ∙ ap (λ (zs : List ℕ). take n old ++ zs) (take_rest xs first))

some_more : {X Y : Type 0} (r : Result X Y) (n first : ℕ) (old some now xs ys : List ℕ) → IsExtended r n first old some now xs ys → n ≤ length some
some_more r n first old some now xs ys a =
    let rest = take (length xs - first) (drop first xs) in
    omega (arith, ap length a.some_is, length-append (take n old) rest, length-take-le n old a.within)

-- a list that another one begins with
front_part : (n : ℕ) (part rest all : List ℕ) → n ≤ length part → part ++ rest ≡ all → (m : ℕ) × (n ≤ m) × (m ≤ length all) × (part ≡ take m all)
front_part n part rest all le e =
    (length part, le, omega (arith, length-append part rest, ap length e), sym (take_at part rest (length part) refl) ∙ ap (take (length part)) e)

-- where memory was found, these are both lists
pub added_all : {X Y : Type 0} (r : Result X Y) (n first : ℕ) (old some now xs ys : List ℕ) → IsExtended r n first old some now xs ys → OnOk r (now ≡ xs ++ ys)
added_all (Ok t) n first old some now xs ys a = a.now_is ∙ ap (λ (zs : List ℕ). some ++ zs) (take_rest ys (n - first)) ∙ adds_both (Ok t) n first old some now xs ys a
added_all (Err e) n first old some now xs ys a = tt

-- these are the first elements of both
pub added_part : {X Y : Type 0} (r : Result X Y) (n first : ℕ) (old some now xs ys : List ℕ) → IsExtended r n first old some now xs ys →
    (m : ℕ) × (n ≤ m) × (m ≤ length (xs ++ ys)) × (now ≡ take m (xs ++ ys))
added_part (Ok t) n first old some now xs ys a =
    let le = some_more (Ok t) n first old some now xs ys a in
    let more = take (length ys - (n - first)) (drop (n - first) ys) in
    front_part n now [] (xs ++ ys) (omega (arith, ap length a.now_is, length-append some more)) (append-nil now ∙ added_all (Ok t) n first old some now xs ys a)
added_part (Err e) n first old some now xs ys a =
    let le = some_more (Err e) n first old some now xs ys a in
    front_part n now (drop (n - first) ys) (xs ++ ys) (omega (arith, ap length a.now_is))
    (ap (λ (zs : List ℕ). zs ++ drop (n - first) ys) a.now_is ∙ adds_both (Err e) n first old some now xs ys a)
