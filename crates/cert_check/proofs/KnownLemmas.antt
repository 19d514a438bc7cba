-- Families that met the problem before.
use Rattle.std.proofs.Common.{Bool, ◌≡◌, ℕ, ◌<◌, [], ◌⊎◌, inl, inr, List, refl, sym, ap, ◌∙◌, length, Contains, IsTrue, true, false}
use Rattle.std.proofs.lemmas.List.{ext_get_or}
use Rattle.rcc5_core.specs.declared.Rel.{Rel}
use Rattle.rcc5_core.specs.RelationSet.{has, only}
use Rattle.world_model.specs.Problem.{Problem, narrowed}
use Rattle.world_model.specs.Family.{Family, meets, set_of}
use Rattle.world_model.proofs.PointPositions.{has-only, relation_in}
use Rattle.world_model.proofs.Relations.{one_rel, only_has}
use Rattle.cert_check.specs.Claiming.{AreMet}
use Rattle.cert_rules.proofs.Narrowing.{shown_is_met, met_is_shown}

-- families with the same number and the same sets, one by one, are one
pub same_family : (f g : Family) → f.universe ≡ g.universe → length f.sets ≡ length g.sets → ((i : ℕ) → i < length f.sets → set_of f i ≡ set_of g i) → f ≡ g
same_family f g number count each =
    let sets : f.sets ≡ g.sets = ext_get_or [] f.sets g.sets count each in
    let with_number : ℕ → Family = λ u. record { universe = u; sets = f.sets } in
    let with_sets : List (List ℕ) → Family = λ s. record { universe = g.universe; sets = s } in
    ap with_number number ∙ ap with_sets sets

-- families of which each met the problem or is one that meets it
pub met_with_one : (p : Problem) (old new : List Family) (f : Family) → AreMet p old → IsTrue (meets p f) → ((g : Family) → Contains new g → Contains old g ⊎ (g ≡ f)) → AreMet p new
met_with_one p old new f known met each g inside = elim (each g inside) [
  | inl before ↦ known g before
  | inr same ↦ ap (meets p) same ∙ met
]

-- two truth values that imply each other are one
pub same_truth : (a b : Bool) → (a ≡ true → b ≡ true) → (b ≡ true → a ≡ true) → a ≡ b
same_truth true b there back = sym (there refl)
same_truth false true there back = back refl
same_truth false false there back = refl

-- a family that meets the problem meets it with a pair narrowed exactly where it has the relation
pub shown_exactly : (p : Problem) (pair : ℕ × ℕ) (rel : Rel) (f : Family) → IsTrue (meets p f) → has (only rel) (relation_in f pair) ≡ meets (narrowed p pair (only rel)) f
shown_exactly p pair rel f met =
    let there = relation_in f pair in
    same_truth (has (only rel) there) (meets (narrowed p pair (only rel)) f)
    (λ h. shown_is_met p pair rel f met (sym (one_rel rel there (sym (only_has rel there) ∙ h))))
    (λ h. ap (has (only rel)) (met_is_shown p pair rel f h).1 ∙ has-only rel)

refuted : (a b : Bool) → (b ≡ true → a ≡ true) → a ≡ false → b ≡ false
refuted a true back failed = sym (back refl) ∙ failed
refuted a false back failed = refl

-- a family that does not meet the problem does not meet it with a pair narrowed
pub not_shown : (p : Problem) (pair : ℕ × ℕ) (rel : Rel) (f : Family) → meets p f ≡ false → meets (narrowed p pair (only rel)) f ≡ false
not_shown p pair rel f failed = refuted (meets p f) (meets (narrowed p pair (only rel)) f) (λ h. (met_is_shown p pair rel f h).0) failed
