-- Ancestors: the test says whether one concept is above another, and what a new link adds.
use Rattle.std.proofs.Common.{◌≡◌, ◌≢◌, ◌<◌, ◌+◌, ◌==◌, ◌||◌, ◌⊎◌, ℕ, suc, zero, true, false, None, Some, length, refl, sym, ap, subst, ◌∙◌, inl, inr, add-one, arith}
use Rattle.std.specs.Bool.{Decides}
use Rattle.std.specs.Option.{option_map_or}
use Rattle.std.proofs.lemmas.Bool.{true≢false, cases_eq, ne_eqb, eq-eqb, or_left}
use Rattle.std.proofs.lemmas.Bool.Decides.{same_from_decides}
use Rattle.std.proofs.lemmas.List.{get_or-set_same, get_or-set_other}
use Rattle.taxon_tree.specs.Trees.{Trees, parent_of, IsAncestor}
use Rattle.taxon_tree.specs.Trees.IsAncestor.{parent, further}
use Rattle.taxon_tree.specs.AncestorSearch.{reaches, finds_ancestors}
use Rattle.taxon_tree.specs.Ancestry.{decided, is_yes, is_ancestor}
use Rattle.taxon_tree.specs.Row.{with_child}

-- the test says whether it is an ancestor
pub Decides-is_ancestor : (f : Trees) (upper lower : ℕ) → Decides (is_ancestor f upper lower) (IsAncestor f upper lower)
unfolding is_ancestor
Decides-is_ancestor f upper lower = by (decided f upper lower)
  where
    by : (d : IsAncestor f upper lower ⊎ ¬ IsAncestor f upper lower) → Decides (is_yes d) (IsAncestor f upper lower)
    by (inl up) = (λ _. up, λ _. refl)
    by (inr not_up) = (λ e. absurd (true≢false (sym e)), λ up. absurd (not_up up))

-- so it is the search with as many steps as concepts
pub is_ancestor-reaches : (f : Trees) (upper lower : ℕ) → reaches (length f.parents) f upper lower ≡ is_ancestor f upper lower
is_ancestor-reaches f upper lower = same_from_decides _ _ (finds_ancestors f upper lower) (Decides-is_ancestor f upper lower)

-- an ancestor stays one where parents stay
pub IsAncestor-kept : {f g : Trees} → ((c p : ℕ) → parent_of f c ≡ Some p → parent_of g c ≡ Some p) → {upper lower : ℕ} → IsAncestor f upper lower → IsAncestor g upper lower
IsAncestor-kept keeps (parent h) = parent (keeps _ _ h)
IsAncestor-kept keeps (further h up) = further (keeps _ _ h) (IsAncestor-kept keeps up)

-- an ancestor of an ancestor
pub IsAncestor-trans : {f : Trees} {top middle : ℕ} → IsAncestor f top middle → {lower : ℕ} → IsAncestor f middle lower → IsAncestor f top lower
IsAncestor-trans up (parent h) = further h up
IsAncestor-trans up (further h rest) = further h (IsAncestor-trans up rest)

-- the parents after a link
pub parent_of-with_child_same : (f : Trees) (p c : ℕ) → c < length f.parents → parent_of (with_child f p c) c ≡ Some p
parent_of-with_child_same f p c lt = get_or-set_same f.parents c (Some p) None lt

pub parent_of-with_child_other : (f : Trees) (p c x : ℕ) → x ≢ c → parent_of (with_child f p c) x ≡ parent_of f x
parent_of-with_child_other f p c x ne = get_or-set_other f.parents c x (Some p) None ne

-- a new link puts p and its ancestors above c and all below c, and nothing else
pub IsAncestor-with_child : (f : Trees) (p c : ℕ) → c < length f.parents → {upper lower : ℕ} → IsAncestor (with_child f p c) upper lower
    → IsAncestor f upper lower ⊎ (((lower ≡ c) ⊎ IsAncestor f c lower) × ((upper ≡ p) ⊎ IsAncestor f upper p))
IsAncestor-with_child f p c lt {upper} (parent {lower} h) =
    elim (cases_eq lower c) [
      | inl same ↦ inr (inl same, inl (let g : Some p ≡ Some upper = sym (parent_of-with_child_same f p c lt) ∙ ap (parent_of (with_child f p c)) (sym same) ∙ h in cc))
      | inr other ↦ inl (parent (sym (parent_of-with_child_other f p c lower other) ∙ h))
    ]
IsAncestor-with_child f p c lt {upper} (further {lower} {middle} h up) =
    elim (cases_eq lower c) [
      | inl same ↦ (
          let at : middle ≡ p = (let g : Some p ≡ Some middle = sym (parent_of-with_child_same f p c lt) ∙ ap (parent_of (with_child f p c)) (sym same) ∙ h in cc) in
          elim (IsAncestor-with_child f p c lt up) [
            | inl old ↦ inr (inl same, inr (subst (IsAncestor f upper) at old))
            | inr new ↦ inr (inl same, new.1)
          ])
      | inr other ↦ (
          let kept : parent_of f lower ≡ Some middle = sym (parent_of-with_child_other f p c lower other) ∙ h in
          elim (IsAncestor-with_child f p c lt up) [
            | inl old ↦ inl (further kept old)
            | inr new ↦ inr (inr (elim new.0 [ inl at ↦ parent (kept ∙ ap Some at) | inr below ↦ further kept below ]), new.1)
          ])
    ]

-- the steps of the search: further up, at the ancestor, at a root
pub reaches_further : (n k : ℕ) (f : Trees) (upper lower above : ℕ) → k ≡ n + 1 → parent_of f lower ≡ Some above → above ≢ upper → reaches k f upper lower ≡ reaches n f upper above
reaches_further n k f upper lower above e up ne =
    ap (λ m. reaches m f upper lower) (e ∙ add-one n)
    ∙ ap (λ o. option_map_or (λ p. p == upper || reaches n f upper p) o false) up
    ∙ ap (λ b. b || reaches n f upper above) (ne_eqb above upper ne)

pub reaches_met : (k : ℕ) (f : Trees) (upper lower : ℕ) → 0 < k → parent_of f lower ≡ Some upper → reaches k f upper lower ≡ true
reaches_met zero f upper lower lt up = absurd (omega arith)
reaches_met (suc n) f upper lower lt up =
    ap (λ o. option_map_or (λ p. p == upper || reaches n f upper p) o false) up ∙ or_left (upper == upper) (reaches n f upper upper) (eq-eqb upper upper refl)

pub reaches_root : (k : ℕ) (f : Trees) (upper lower : ℕ) → parent_of f lower ≡ None → reaches k f upper lower ≡ false
reaches_root zero f upper lower up = refl
reaches_root (suc n) f upper lower up = ap (λ o. option_map_or (λ p. p == upper || reaches n f upper p) o false) up

-- with as many steps as concepts it is the test
pub reaches_all : (k : ℕ) (f : Trees) (upper lower : ℕ) → length f.parents ≡ k → reaches k f upper lower ≡ is_ancestor f upper lower
reaches_all k f upper lower e = ap (λ m. reaches m f upper lower) (sym e) ∙ is_ancestor-reaches f upper lower
