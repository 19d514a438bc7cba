-- Whether one concept is an ancestor of another is decided, for any two numbers of any trees.
use Rattle.std.specs.Prelude.{◌≡◌, ◌⊎◌, ℕ, Bool, true, false, length}
use Rattle.std.proofs.Common.{inl, inr, refl, ◌∙◌, sym}
use Rattle.std.proofs.lemmas.Bool.{true≢false}
use Rattle.taxon_tree.specs.Trees.{Trees, IsAncestor}
use Rattle.taxon_tree.specs.AncestorSearch.{reaches, finds_ancestors}

-- it is an ancestor, or it is none
unfoldable pub decided : (f : Trees) (upper lower : ℕ) → IsAncestor f upper lower ⊎ ¬ IsAncestor f upper lower
decided f upper lower = by (reaches (length f.parents) f upper lower) refl
  where
    by : (b : Bool) → reaches (length f.parents) f upper lower ≡ b → IsAncestor f upper lower ⊎ ¬ IsAncestor f upper lower
    by true e = inl ((finds_ancestors f upper lower).0 e)
    by false e = inr (λ up. true≢false (sym ((finds_ancestors f upper lower).1 up) ∙ e))

-- the answer alone
abbrev pub is_yes : {P : Type 0} → P ⊎ ¬ P → Bool
is_yes (inl p) = true
is_yes (inr n) = false

-- whether upper is an ancestor of lower
unfoldable pub is_ancestor : Trees → ℕ → ℕ → Bool
is_ancestor f upper lower = is_yes (decided f upper lower)
