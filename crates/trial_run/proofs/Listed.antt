-- Lists that grow by one more number.
use Rattle.std.proofs.Common.{◌≡◌, ◌+◌, ◌-◌, ◌≤◌, ℕ, List, [], ◌∷◌, ◌++◌, map, sym, ap, ◌∙◌, arith}
use Rattle.std.specs.List.{range_with_len}
use Rattle.std.proofs.lemmas.List.{append_assoc}
use Rattle.std.proofs.lemmas.List.FromFn.{map-range_with_len_more}

-- what comes behind the values of some numbers, from 1 on
pub number_more : {Y : Type 0} (f : ℕ → Y) (front old new : List Y) (number : ℕ) (y : Y) → 1 ≤ number
    → old ≡ front ++ map f (range_with_len 1 (number - 1)) → new ≡ old ++ y ∷ [] → y ≡ f number
    → new ≡ front ++ map f (range_with_len 1 (number + 1 - 1))
number_more f front old new number y least was is y_is =
    let numbers = range_with_len 1 (number - 1) in
    let e : 1 + (number - 1) ≡ number = omega arith in
    let n : number - 1 + 1 ≡ number + 1 - 1 = omega arith in
    is ∙ ap (λ list. list ++ y ∷ []) was ∙ append_assoc front (map f numbers) (y ∷ []) ∙ ap (λ z. front ++ (map f numbers ++ z ∷ [])) y_is
    ∙ ap (λ list. front ++ list) (sym (map-range_with_len_more f 1 (number - 1) number e)) ∙ ap (λ m. front ++ map f (range_with_len 1 m)) n
