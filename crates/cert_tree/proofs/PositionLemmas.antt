-- Positions are compared from the front.
use Rattle.std.proofs.Common.{◌≡◌, ℕ, ◌+◌, zero, suc, false, ◌&&◌, List, [], ◌∷◌, length, drop, Some, refl, ap, ◌∙◌, arith}
use Rattle.std.specs.Prelude.{slice_get}
use Rattle.rcc5_core.specs.declared.Rel.{Rel}
use Rattle.rcc5_core.specs.Relation.{same_rel, relation_of}
use Rattle.cert_rules.specs.Trees.{same_position, table_along}
use Rattle.world_model.specs.Family.{Family, set_of}
use Rattle.std.proofs.lemmas.List.{length-map}

-- positions of other lengths are not one
pub other_length : (a b : List Rel) → (length a ≡ length b → ⊥) → same_position a b ≡ false
other_length [] [] differ = absurd (differ refl)
other_length [] (s ∷ b) differ = refl
other_length (r ∷ a) [] differ = refl
other_length (r ∷ a) (s ∷ b) differ = ap (λ rest. same_rel r s && rest) (other_length a b (λ e. differ (ap suc e))) ∙ grind arith

-- what is left of two positions at a place
position_here : (a b : List Rel) (k : ℕ) (r s : Rel) → slice_get a k ≡ Some r → slice_get b k ≡ Some s →
    same_position (drop k a) (drop k b) ≡ (same_rel r s && same_position (drop (suc k) a) (drop (suc k) b))
position_here [] b k r s at got = cc
position_here (x ∷ a) [] k r s at got = cc
position_here (x ∷ a) (y ∷ b) zero r s at got =
    let one : x ≡ r = cc in let two : y ≡ s = cc in
    ap (λ x. same_rel x y && same_position a b) one ∙ ap (λ y. same_rel r y && same_position a b) two
position_here (x ∷ a) (y ∷ b) (suc k) r s at got = position_here a b k r s at got

pub position_at : (a b : List Rel) (k : ℕ) (r s : Rel) → slice_get a k ≡ Some r → slice_get b k ≡ Some s →
    same_position (drop k a) (drop k b) ≡ (same_rel r s && same_position (drop (k + 1) a) (drop (k + 1) b))
position_at a b k r s at got =
    let next : suc k ≡ k + 1 = omega arith in position_here a b k r s at got ∙ ap (λ n. same_rel r s && same_position (drop n a) (drop n b)) next

-- a family's table has a relation for each pair
pub table_length : (levels : List (ℕ × ℕ)) (f : Family) → length (table_along levels f) ≡ length levels
table_length levels f = length-map levels (λ pair. relation_of (set_of f pair.0) (set_of f pair.1))

pub table_at : (levels : List (ℕ × ℕ)) (f : Family) (d : ℕ) (pair : ℕ × ℕ) → slice_get levels d ≡ Some pair → slice_get (table_along levels f) d ≡ Some (relation_of (set_of f pair.0) (set_of f pair.1))
table_at [] f d pair e = cc
table_at (other ∷ levels) f zero pair e = let same : other ≡ pair = cc in ap (λ pair. Some (relation_of (set_of f pair.0) (set_of f pair.1))) same
table_at (other ∷ levels) f (suc d) pair e = table_at levels f d pair e
