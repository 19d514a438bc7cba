-- The weight of places falls.
use Rattle.std.proofs.Common.{◌≡◌, ℕ, zero, suc, ◌*◌, ◌^◌, ◌<◌, ◌≤◌, Bool, true, false, cond, List, [], ◌∷◌, ◌++◌, length, take, refl, ap, arith, pow-suc}
use Rattle.watch_arena.specs.declared.places.Place.{Place}
use Rattle.watch_arena.specs.Places.{place_at, is_assumed}
use Rattle.learn_solver.specs.Weights.{weight}

-- three times as much
triple : (n : ℕ) → 3 ^ suc n ≡ 3 * 3 ^ n
triple n = let e = pow-suc 3 n in omega arith

-- one digit: its weight is at most that of an assumed place
digit-most : (p : Place) (n : ℕ) → cond (is_assumed p) (3 ^ n) 0 ≤ 3 ^ n
digit-most p n = go (is_assumed p) where
  go : (b : Bool) → cond b (3 ^ n) 0 ≤ 3 ^ n
  go true = omega arith
  go false = omega arith

pub weight-some : (n : ℕ) (places : List Place) → 1 ≤ weight n places
weight-some zero places = omega arith
weight-some (suc zero) [] = omega arith
weight-some (suc (suc n)) [] = let e = triple (suc n) in let rest = weight-some (suc n) [] in omega arith
weight-some (suc n) (p ∷ places) = let rest = weight-some n places in omega arith

pub weight-most : (n : ℕ) (places : List Place) → weight n places ≤ 3 ^ n
weight-most zero places = omega arith
weight-most (suc n) [] = omega arith
weight-most (suc n) (p ∷ places) = let e = triple n in let rest = weight-most n places in let digit = digit-most p n in omega arith

-- with no place, it is the most
weight-none : (n : ℕ) → weight n [] ≡ 3 ^ n
weight-none zero = refl
weight-none (suc n) = refl

-- more places weigh no more
pub weight-longer : (n : ℕ) (places more : List Place) → weight n (places ++ more) ≤ weight n places
weight-longer n [] more = let most = weight-most n more in let e = weight-none n in omega arith
weight-longer zero (p ∷ places) more = omega arith
weight-longer (suc n) (p ∷ places) more = let rest = weight-longer n places more in omega arith

-- one more weighs less
pub weight-one_more : (n : ℕ) (places : List Place) (p : Place) → length places < n → weight n (places ++ p ∷ []) < weight n places
weight-one_more zero places p lt = absurd (omega arith)
weight-one_more (suc n) [] p lt =
    let e = triple n in let digit = digit-most p n in let none = weight-none n in let some = weight-some n [] in omega arith
weight-one_more (suc n) (q ∷ places) p lt = let rest = weight-one_more n places p (omega arith) in omega arith

-- where an assumed place becomes implied, the rest does not matter
pub weight-jumped : (n q : ℕ) (places : List Place) (last : Place) → q < n → q < length places → is_assumed (place_at places q) ≡ true → is_assumed last ≡ false → weight n (take q places ++ last ∷ []) < weight n places
weight-jumped zero q places last lt within on off = absurd (omega arith)
weight-jumped (suc n) q [] last lt within on off = absurd (omega arith)
weight-jumped (suc n) zero (p ∷ places) last lt within on off =
    let some = weight-some n places in
    let none = weight-none n in
    let big : cond (is_assumed p) (3 ^ n) 0 ≡ 3 ^ n = ap (λ (b : Bool). cond b (3 ^ n) 0) on in
    let small : cond (is_assumed last) (3 ^ n) 0 ≡ 0 = ap (λ (b : Bool). cond b (3 ^ n) 0) off in
    omega arith
weight-jumped (suc n) (suc q) (p ∷ places) last lt within on off = let rest = weight-jumped n q places last (omega arith) (omega arith) on off in omega arith

-- it rests on which places were assumed
pub weight-same : (n : ℕ) (xs ys : List Place) → length xs ≡ length ys → ((p : ℕ) → p < length xs → is_assumed (place_at xs p) ≡ is_assumed (place_at ys p)) → weight n xs ≡ weight n ys
weight-same zero xs ys size same = refl
weight-same (suc n) [] [] size same = refl
weight-same (suc n) [] (y ∷ ys) size same = absurd (omega arith)
weight-same (suc n) (x ∷ xs) [] size same = absurd (omega arith)
weight-same (suc n) (x ∷ xs) (y ∷ ys) size same =
    let here : is_assumed x ≡ is_assumed y = same 0 (omega arith) in
    let rest = weight-same n xs ys (omega arith) (λ p lt. same (suc p) (omega arith)) in
    rw (here, rest) refl
