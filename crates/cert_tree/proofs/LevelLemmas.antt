-- Pairs are looked at one after another.
use Rattle.std.proofs.Common.{◌≡◌, ℕ, zero, suc, true, List, [], ◌∷◌, ◌++◌, length, Option, Some, None, refl, sym, ap, ◌∙◌, subst, ◌⊎◌, inl, inr}
use Rattle.std.specs.Prelude.{filter, slice_get}
use Rattle.world_model.specs.Problem.{Problem, pairs}
use Rattle.rcc5_core.specs.declared.Rel.{Rel}
use Rattle.cert_rules.specs.Trees.{Branching}
use Rattle.cert_rules.specs.Listings.{listing_tree}
use Rattle.cert_tree.specs.Levels.{is_level, tree_over, AreDepths}

-- what stands in a list stays there when one more is added
pub got_front : {A : Type 0} (xs : List A) (x : A) (k : ℕ) (y : A) → slice_get xs k ≡ Some y → slice_get (xs ++ x ∷ []) k ≡ Some y
got_front [] x k y e = cc
got_front (a ∷ xs) x zero y e = e
got_front (a ∷ xs) x (suc k) y e = got_front xs x k y e

pub got_last : {A : Type 0} (xs : List A) (x : A) → slice_get (xs ++ x ∷ []) (length xs) ≡ Some x
got_last [] x = refl
got_last (a ∷ xs) x = got_last xs x

-- and what stands in the longer one stood there, or is the one that was added
pub got_parts : {A : Type 0} (xs : List A) (x : A) (k : ℕ) (y : A) → slice_get (xs ++ x ∷ []) k ≡ Some y → (slice_get xs k ≡ Some y) ⊎ ((k ≡ length xs) × (x ≡ y))
got_parts [] x zero y e = inr (refl, cc)
got_parts [] x (suc k) y e = inl e
got_parts (a ∷ xs) x zero y e = inl e
got_parts (a ∷ xs) x (suc k) y e = elim (got_parts xs x k y e) [
  | inl h ↦ inl h
  | inr h ↦ inr (ap suc h.0, h.1)
]

-- a pair is added
pub depth_added : (list : List ℕ) (depths : List (Option ℕ)) (pair : ℕ) → pair ≡ length depths → AreDepths list depths → AreDepths (list ++ pair ∷ []) (depths ++ Some (length list) ∷ [])
depth_added list depths pair next are = record {
  found = λ q d e. elim (got_parts depths (Some (length list)) q (Some d) e) [
    | inl h ↦ got_front list pair d q (are.found q d h)
    | inr h ↦
        let here : length list ≡ d = cc in
        let this : pair ≡ q = next ∙ sym h.0 in
        subst (λ d. slice_get (list ++ pair ∷ []) d ≡ Some q) here (got_last list pair ∙ ap Some this)
  ];
  kept = λ q d e. elim (got_parts list pair d q e) [
    | inl h ↦ got_front depths (Some (length list)) q (Some d) (are.kept q d h)
    | inr h ↦
        let this : length depths ≡ q = sym next ∙ h.1 in
        subst (λ q. slice_get (depths ++ Some (length list) ∷ []) q ≡ Some (Some d)) this (got_last depths (Some (length list)) ∙ ap (λ d. Some (Some d)) (sym h.0))
  ];
}

-- a pair is passed over
pub depth_skipped : (list : List ℕ) (depths : List (Option ℕ)) → AreDepths list depths → AreDepths list (depths ++ None ∷ [])
depth_skipped list depths are = record {
  found = λ q d e. elim (got_parts depths None q (Some d) e) [
    | inl h ↦ are.found q d h
    | inr h ↦ let no : None ≡ Some d = h.1 in cc
  ];
  kept = λ q d e. got_front depths None q (Some d) (are.kept q d e);
}

-- the tree over all pairs is that of a listing
all_levels : (q : Problem) (ps : List (ℕ × ℕ)) → filter (is_level q true) ps ≡ ps
all_levels q [] = refl
all_levels q (pair ∷ ps) = ap (λ rest. pair ∷ rest) (all_levels q ps)

pub tree_over_all : (q : Problem) (from : List Rel) → tree_over q true from ≡ listing_tree q from
tree_over_all q from = ap {B = Branching} (λ levels. record { subject = q; levels = levels; from = from }) (all_levels q (pairs q))
