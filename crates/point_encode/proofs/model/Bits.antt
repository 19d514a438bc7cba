-- What makes literals and clauses true, in terms of bits, and the bits of the concepts among all.
use Rattle.std.proofs.Common.{◌≡◌, ℕ, ◌<◌, Bool, true, false, not, ◌&&◌, ◌||◌, cond, List, [], ◌∷◌, map, take, get_or, refl, ap, ◌∙◌}
use Rattle.std.specs.List.{list_any}
use Rattle.std.proofs.lemmas.List.{get_or-take}
use Rattle.lits_core.specs.Literals.{variable_of, lit_true, clause_true}
use Rattle.lits_core.proofs.LiteralLemmas.{variable_of-literal_of, is_negative-literal_of}
use Rattle.world_model.specs.Family.{implies}
use Rattle.world_model.specs.Alive.{bit_of}
use Rattle.world_model.proofs.Members.{In, here, there}
use Rattle.point_encode.specs.Model.Clauses.{is_so, is_not, within_clause, apart_clause, covered_clause}

-- a literal, by the bit of its variable
pub so_true : (bits : List Bool) (v : ℕ) → lit_true bits (is_so v) ≡ bit_of bits v
unfolding lit_true
so_true bits v =
    ap (λ s. cond s (not (get_or bits (variable_of (is_so v)) false)) (get_or bits (variable_of (is_so v)) false)) (is_negative-literal_of v false)
    ∙ ap (λ x. get_or bits x false) (variable_of-literal_of v false)

pub not_true : (bits : List Bool) (v : ℕ) → lit_true bits (is_not v) ≡ not (bit_of bits v)
unfolding lit_true
not_true bits v =
    ap (λ s. cond s (not (get_or bits (variable_of (is_not v)) false)) (get_or bits (variable_of (is_not v)) false)) (is_negative-literal_of v true)
    ∙ ap (λ x. not (get_or bits x false)) (variable_of-literal_of v true)

-- one of several concepts
pub any_so : (bits : List Bool) (xs : List ℕ) → list_any (lit_true bits) (map is_so xs) ≡ list_any (bit_of bits) xs
any_so bits [] = refl
any_so bits (x ∷ xs) = ap (λ a. a || list_any (lit_true bits) (map is_so xs)) (so_true bits x) ∙ ap (λ b. bit_of bits x || b) (any_so bits xs)

-- the clauses of two and of more literals
pub two_true : (bits : List Bool) (a b : ℕ) (x y : Bool) → lit_true bits a ≡ x → lit_true bits b ≡ y → clause_true bits (a ∷ b ∷ []) ≡ (x || y)
two_true bits a b x y e f = ap (λ s. s || (lit_true bits b || false)) e ∙ ap (λ t. x || (t || false)) f ∙ last x y
  where
    last : (x y : Bool) → (x || (y || false)) ≡ (x || y)
    last true y = refl
    last false true = refl
    last false false = refl

pub three_true : (bits : List Bool) (a b c : ℕ) (x y z : Bool) → lit_true bits a ≡ x → lit_true bits b ≡ y → lit_true bits c ≡ z → clause_true bits (a ∷ b ∷ c ∷ []) ≡ (x || (y || z))
three_true bits a b c x y z e f g = ap (λ s. s || clause_true bits (b ∷ c ∷ [])) e ∙ ap (λ t. x || t) (two_true bits b c y z f g)

pub within_true : (bits : List Bool) (c parent : ℕ) → clause_true bits (within_clause c parent) ≡ implies (bit_of bits c) (bit_of bits parent)
within_true bits c parent = two_true bits (is_not c) (is_so parent) _ _ (not_true bits c) (so_true bits parent)

pub apart_true : (bits : List Bool) (two : ℕ × ℕ) → clause_true bits (apart_clause two) ≡ not (bit_of bits two.0 && bit_of bits two.1)
apart_true bits two = two_true bits (is_not two.0) (is_not two.1) _ _ (not_true bits two.0) (not_true bits two.1) ∙ both (bit_of bits two.0) (bit_of bits two.1)
  where
    both : (a b : Bool) → (not a || not b) ≡ not (a && b)
    both true b = refl
    both false b = refl

pub covered_true : (bits : List Bool) (c : ℕ) (parts : List ℕ) → clause_true bits (covered_clause c parts) ≡ implies (bit_of bits c) (list_any (bit_of bits) parts)
covered_true bits c parts = ap (λ s. s || list_any (lit_true bits) (map is_so parts)) (not_true bits c) ∙ ap (λ t. not (bit_of bits c) || t) (any_so bits parts)

-- a point has the bits of the first n variables
pub record Agrees (n : ℕ) (point bits : List Bool) : Type 0 where
  pub same : (c : ℕ) → c < n → bit_of point c ≡ bit_of bits c

pub front_agrees : (n : ℕ) (bits : List Bool) → Agrees n (take n bits) bits
front_agrees n bits = record { same = λ c h. get_or-take n bits c false h }

-- one of several of the first concepts
pub any_same : {n : ℕ} {point bits : List Bool} → Agrees n point bits → (xs : List ℕ) → ((x : ℕ) → In x xs → x < n) → list_any (bit_of point) xs ≡ list_any (bit_of bits) xs
any_same g [] below = refl
any_same {n} {point} {bits} g (x ∷ xs) below =
    ap (λ a. a || list_any (bit_of point) xs) (g.same x (below x (here refl))) ∙ ap (λ b. bit_of bits x || b) (any_same g xs (λ y i. below y (there i)))
