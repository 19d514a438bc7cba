-- A word that is ID.NAME, and the first concept of which it is.
use Rattle.std.proofs.Common.{◌≡◌, ◌≢◌, ◌+◌, ◌-◌, ◌<◌, ℕ, suc, Bool, false, cond, List, [], ◌∷◌, ◌++◌, Some, refl, sym, ap, ◌∙◌, arith}
use Rattle.std.specs.Prelude.{bytes_eq, find}
use Rattle.std.specs.List.{range_with_len}
use Rattle.std.proofs.lemmas.Bool.{false_from_ne_true}
use Rattle.std.proofs.lemmas.Bool.Decides.{Decides-eqb}
use Rattle.std.proofs.lemmas.Slice.Eq.{bytes_eq-Decides}

-- what stands first in both is no matter
past_front : (front xs ys : List ℕ) → bytes_eq (front ++ xs) (front ++ ys) ≡ bytes_eq xs ys
past_front [] xs ys = refl
past_front (b ∷ front) xs ys = rw ((Decides-eqb b b).1 refl) (past_front front xs ys)

-- a word that begins with what stands first
pub front_there : (front back word rest : List ℕ) → word ≡ front ++ rest → bytes_eq (front ++ back) word ≡ bytes_eq back rest
front_there front back word rest e = ap (bytes_eq (front ++ back)) e ∙ past_front front back rest

-- a word that doesn't
pub front_lacking : (front back word : List ℕ) → ((rest : List ℕ) → word ≢ front ++ rest) → bytes_eq (front ++ back) word ≡ false
front_lacking front back word h =
    false_from_ne_true (bytes_eq (front ++ back) word) (λ same. h back (sym ((bytes_eq-Decides (front ++ back) word).0 same)))

pub dot_there : (name bytes rest : List ℕ) → bytes ≡ 46 ∷ rest → bytes_eq (46 ∷ name) bytes ≡ bytes_eq name rest
dot_there name bytes rest e = ap (bytes_eq (46 ∷ name)) e

pub ruleset dot_rules = (dot_there)

-- a turn of the search
pub find_step : (t : ℕ → Bool) (c n : ℕ) → c < n → find t (range_with_len c (n - c)) ≡ cond (t c) (Some c) (find t (range_with_len (c + 1) (n - (c + 1))))
find_step t c n h = let e : n - c ≡ suc (n - (c + 1)) = omega arith in rw e refl

pub ruleset named_rules = (find_step)
