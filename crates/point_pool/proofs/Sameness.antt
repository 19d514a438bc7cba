-- Lists with the same entries.
use Rattle.std.proofs.Common.{◌≡◌, ℕ, zero, suc, ◌+◌, ◌<◌, ◌≤◌, get_or, subst, List, [], ◌∷◌, length, take, drop, ◌-◌, refl, ap, ◌∙◌, arith}
use Rattle.std.specs.Prelude.{Some, slice_get}
use Rattle.std.proofs.lemmas.List.{take_more_same, get_or-take, get_or-drop}

-- lists of one length with the same entries are equal
pub same_entries : {X : Type 0} (xs ys : List X) → length xs ≡ length ys → ((k : ℕ) → k < length xs → slice_get xs k ≡ slice_get ys k) → xs ≡ ys
same_entries [] [] counted each = refl
same_entries [] (y ∷ ys) counted each = absurd (omega arith)
same_entries (x ∷ xs) [] counted each = absurd (omega arith)
same_entries {X} (x ∷ xs) (y ∷ ys) counted each =
    let first : Some x ≡ Some y = each 0 (omega arith) in
    let rest : xs ≡ ys = same_entries xs ys (omega arith) (λ k small. each (suc k) (omega arith)) in
    cc

-- lists that begin alike do so further, as far as they have the same entries
pub alike_more : {X : Type 0} (m : ℕ) (xs ys : List X) (n : ℕ) (d : X) → n + m ≤ length xs → n + m ≤ length ys → take n xs ≡ take n ys →
    ((k : ℕ) → n ≤ k → k < n + m → get_or xs k d ≡ get_or ys k d) → take (n + m) xs ≡ take (n + m) ys
alike_more zero xs ys n d one other same each = subst (λ k. take k xs ≡ take k ys) (omega arith) same
alike_more (suc m) xs ys n d one other same each =
    let more : take (n + 1) xs ≡ take (n + 1) ys = take_more_same xs ys n d (omega (arith, one)) (omega (arith, other)) same (each n (omega arith) (omega arith)) in
    let rest : take ((n + 1) + m) xs ≡ take ((n + 1) + m) ys = alike_more m xs ys (n + 1) d (omega (arith, one)) (omega (arith, other)) more (λ k low high. each k (omega (arith, low)) (omega (arith, high))) in
    subst (λ k. take k xs ≡ take k ys) (omega arith) rest

-- an entry of a part of a list
pub part_entry : {X : Type 0} (xs : List X) (start n k : ℕ) (d : X) → start ≤ k → k < start + n → get_or (take ((start + n) - start) (drop start xs)) (k - start) d ≡ get_or xs k d
part_entry xs start n k d low high =
    get_or-take ((start + n) - start) (drop start xs) (k - start) d (omega arith) ∙ get_or-drop start xs (k - start) d ∙ ap (λ i. get_or xs i d) (omega arith)
