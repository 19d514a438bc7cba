-- A search up the parents that takes as many steps as there are concepts finds each ancestor, so that being an ancestor is decided.
use Rattle.std.proofs.Common.{◌≡◌, ◌≢◌, ◌+◌, ◌≤◌, ◌==◌, ◌||◌, ◌⊎◌, ℕ, suc, zero, Bool, true, false, List, [], ◌∷◌, Option, None, Some, length, set, get_or, refl, sym, ap, subst, ◌∙◌, inl, inr, arith}
use Rattle.std.proofs.lemmas.Bool.{cases_eq, cases_lt, or_cases, or_left, or_right, eqb-true, eq-eqb, true≢false}
use Rattle.std.proofs.lemmas.List.{get_or-set_same, get_or-set_other, set_past}
use Rattle.std.specs.Option.{option_map_or}
use Rattle.taxon_tree.specs.Trees.{Trees, parent_of, IsAncestor}
use Rattle.taxon_tree.specs.Trees.IsAncestor.{parent, further}

-- whether upper is met within n steps up from lower
abbrev pub reaches : ℕ → Trees → ℕ → ℕ → Bool
reaches zero f upper lower = false
reaches (suc n) f upper lower = option_map_or (λ p. p == upper || reaches n f upper p) (parent_of f lower) false

-- what it finds is an ancestor
pub IsAncestor-reaches : (n : ℕ) (f : Trees) (upper lower : ℕ) → reaches n f upper lower ≡ true → IsAncestor f upper lower
IsAncestor-reaches zero f upper lower h = absurd (true≢false (sym h))
IsAncestor-reaches (suc n) f upper lower h = by (λ p. IsAncestor-reaches n f upper p) (parent_of f lower) refl h
  where
    by : ((p : ℕ) → reaches n f upper p ≡ true → IsAncestor f upper p)
        → (o : Option ℕ) → parent_of f lower ≡ o → option_map_or (λ p. p == upper || reaches n f upper p) o false ≡ true → IsAncestor f upper lower
    by rest None e g = absurd (true≢false (sym g))
    by rest (Some p) e g =
        elim (or_cases (p == upper) (reaches n f upper p) g) [
          | inl at ↦ parent (e ∙ ap Some (eqb-true p upper at))
          | inr up ↦ further e (rest p up)
        ]

-- how many concepts have a parent
abbrev child_count : List (Option ℕ) → ℕ
child_count [] = 0
child_count (None ∷ ps) = child_count ps
child_count (Some p ∷ ps) = 1 + child_count ps

child_count-le : (ps : List (Option ℕ)) → child_count ps ≤ length ps
child_count-le [] = omega arith
child_count-le (None ∷ ps) = omega (arith, child_count-le ps)
child_count-le (Some p ∷ ps) = omega (arith, child_count-le ps)

-- the trees without the link from a concept to its parent
abbrev unlinked : Trees → ℕ → Trees
unlinked f c = record { names = f.names; parents = set f.parents c None; children = f.children }

child_count-set : (ps : List (Option ℕ)) (c p : ℕ) → get_or ps c None ≡ Some p → child_count (set ps c None) + 1 ≡ child_count ps
child_count-set [] c p h = absurd (cc)
child_count-set (None ∷ ps) zero p h = absurd (cc)
child_count-set (Some q ∷ ps) zero p h = omega arith
child_count-set (None ∷ ps) (suc c) p h = child_count-set ps c p h
child_count-set (Some q ∷ ps) (suc c) p h = omega (arith, child_count-set ps c p h)

-- a link of the others stays
parent_of-unlinked : (f : Trees) (c x p : ℕ) → x ≢ c → parent_of f x ≡ Some p → parent_of (unlinked f c) x ≡ Some p
parent_of-unlinked f c x p ne e = get_or-set_other f.parents c x None None ne ∙ e

-- a link that is left was there
parent_of-linked : (f : Trees) (c x p : ℕ) → parent_of (unlinked f c) x ≡ Some p → parent_of f x ≡ Some p
parent_of-linked f c x p h =
    elim (cases_eq x c) [
      | inl same ↦ elim (cases_lt c (length f.parents)) [
        | inl within ↦ let at : get_or (set f.parents c None) x None ≡ None = ap (λ y. get_or (set f.parents c None) y None) same ∙ get_or-set_same f.parents c None None within in absurd (cc)
        | inr past ↦ sym (ap (λ ps. get_or ps x None) (set_past f.parents c None past)) ∙ h
      ]
      | inr other ↦ sym (get_or-set_other f.parents c x None None other) ∙ h
    ]

reaches-linked : (n : ℕ) (f : Trees) (c upper lower : ℕ) → reaches n (unlinked f c) upper lower ≡ true → reaches n f upper lower ≡ true
reaches-linked zero f c upper lower h = h
reaches-linked (suc n) f c upper lower h = by (reaches-linked n f c upper) (parent_of (unlinked f c) lower) refl h
  where
    by : ((p : ℕ) → reaches n (unlinked f c) upper p ≡ true → reaches n f upper p ≡ true)
        → (o : Option ℕ) → parent_of (unlinked f c) lower ≡ o → option_map_or (λ p. p == upper || reaches n (unlinked f c) upper p) o false ≡ true
        → option_map_or (λ p. p == upper || reaches n f upper p) (parent_of f lower) false ≡ true
    by rest None e g = absurd (true≢false (sym g))
    by rest (Some p) e g =
        ap (λ o. option_map_or (λ p. p == upper || reaches n f upper p) o false) (parent_of-linked f c lower p e)
        ∙ elim (or_cases (p == upper) (reaches n (unlinked f c) upper p) g) [
          | inl at ↦ or_left (p == upper) (reaches n f upper p) at
          | inr up ↦ or_right (p == upper) (reaches n f upper p) (rest p up)
        ]

-- the way up from x to an ancestor goes past c at most once: without the link of c it is there, or it is from the parent of c on
detour : (f : Trees) (upper c p : ℕ) → parent_of f c ≡ Some p → {x : ℕ} → IsAncestor f upper x
    → IsAncestor (unlinked f c) upper x ⊎ (IsAncestor (unlinked f c) upper p ⊎ (p ≡ upper))
detour f upper c p e (parent {lower} h) =
    elim (cases_eq lower c) [
      | inl same ↦ inr (inr (let g : Some p ≡ Some upper = sym e ∙ ap (parent_of f) (sym same) ∙ h in cc))
      | inr other ↦ inl (parent (parent_of-unlinked f c lower upper other h))
    ]
detour f upper c p e (further {lower} {middle} h up) =
    elim (cases_eq lower c) [
      | inl same ↦ (
          let at : p ≡ middle = let g : Some p ≡ Some middle = sym e ∙ ap (parent_of f) (sym same) ∙ h in cc in
          elim (detour f upper c p e up) [
            | inl rest ↦ inr (inl (subst (IsAncestor (unlinked f c) upper) (sym at) rest))
            | inr rest ↦ inr rest
          ])
      | inr other ↦ elim (detour f upper c p e up) [
        | inl rest ↦ inl (further (parent_of-unlinked f c lower middle other h) rest)
        | inr rest ↦ inr rest
      ]
    ]

-- the first step up
first_step : {f : Trees} {upper lower : ℕ} → IsAncestor f upper lower → (p : ℕ) × (parent_of f lower ≡ Some p) × ((p ≡ upper) ⊎ IsAncestor f upper p)
first_step {f} {upper} (parent h) = (upper, h, inl refl)
first_step {f} {upper} (further {lower} {middle} h up) = (middle, h, inr up)

-- each ancestor is met within as many steps as concepts have a parent
reaches-IsAncestor : (n : ℕ) (f : Trees) (upper lower : ℕ) → child_count f.parents ≤ n → IsAncestor f upper lower → reaches n f upper lower ≡ true
reaches-IsAncestor zero f upper lower le up =
    let s = first_step up in
    absurd (omega (arith, child_count-set f.parents lower s.0 s.1))
reaches-IsAncestor (suc n) f upper lower le up =
    let s = first_step up in
    ap (λ o. option_map_or (λ p. p == upper || reaches n f upper p) o false) s.1
    ∙ elim (nearer s.0 s.1 s.2) [
      | inl at ↦ or_left (s.0 == upper) (reaches n f upper s.0) (eq-eqb s.0 upper at)
      | inr rest ↦ or_right (s.0 == upper) (reaches n f upper s.0)
          (reaches-linked n f lower upper s.0
          (reaches-IsAncestor n (unlinked f lower) upper s.0 (omega (arith, child_count-set f.parents lower s.0 s.1)) rest))
    ]
  where
    nearer : (p : ℕ) → parent_of f lower ≡ Some p → (p ≡ upper) ⊎ IsAncestor f upper p → (p ≡ upper) ⊎ IsAncestor (unlinked f lower) upper p
    nearer p e (inl at) = inl at
    nearer p e (inr rest) =
        elim (detour f upper lower p e rest) [
          | inl there ↦ inr there
          | inr other ↦ elim other [ inl there ↦ inr there | inr at ↦ inl at ]
        ]

-- the search with as many steps as concepts finds exactly the ancestors
pub finds_ancestors : (f : Trees) (upper lower : ℕ) → (reaches (length f.parents) f upper lower ≡ true → IsAncestor f upper lower)
    × (IsAncestor f upper lower → reaches (length f.parents) f upper lower ≡ true)
finds_ancestors f upper lower = (
  IsAncestor-reaches (length f.parents) f upper lower,
  reaches-IsAncestor (length f.parents) f upper lower (child_count-le f.parents),
)
