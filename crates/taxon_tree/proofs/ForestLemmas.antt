-- A new root and a new child leave a forest a forest.
use Rattle.std.proofs.Common.{◌≡◌, ◌≢◌, ◌+◌, ◌<◌, ◌^◌, ℕ, suc, zero, false, List, [], ◌∷◌, ◌++◌, None, Some, All, AllPairs, Contains, length, get_or, refl, sym, ap, subst, ◌∙◌, inl, inr, arith}
use Rattle.std.specs.Str.{bytes_eq}
use Rattle.std.proofs.lemmas.Bool.{true≢false, cases_eq}
use Rattle.std.proofs.lemmas.Slice.Eq.{bytes_eq-Decides}
use Rattle.std.proofs.lemmas.List.{get_or-set_same, get_or-set_other, length-set, length_push}
use Rattle.std.proofs.lemmas.List.Elements.{All-push, Contains-push, Contains-push_cases, Contains-append_left, Contains-get_or}
use Rattle.std.proofs.lemmas.List.Quantifiers.{all_pairs_push, position-Some}
use Rattle.std.proofs.lemmas.List.Sums.{fails_before_first}
use Rattle.taxon_tree.specs.Trees.{Trees, no_trees, name_of, parent_of, children_of, number_of, IsAncestor, IsForest}
use Rattle.taxon_tree.specs.Trees.IsAncestor.{parent, further}
use Rattle.taxon_tree.specs.Row.{with_root, with_child}
use Rattle.taxon_tree.proofs.ListLemmas.{position-None}
use Rattle.taxon_tree.proofs.AncestryLemmas.{IsAncestor-kept, IsAncestor-trans, IsAncestor-with_child, parent_of-with_child_same, parent_of-with_child_other}

-- one more default changes no read
get_or-push_default : {X : Type 0} (d : X) (xs : List X) (i : ℕ) → get_or (xs ++ d ∷ []) i d ≡ get_or xs i d
get_or-push_default d [] zero = refl
get_or-push_default d [] (suc i) = refl
get_or-push_default d (x ∷ xs) zero = refl
get_or-push_default d (x ∷ xs) (suc i) = get_or-push_default d xs i

pub parent_of-with_root : (f : Trees) (name : List ℕ) (c : ℕ) → parent_of (with_root f name) c ≡ parent_of f c
parent_of-with_root f name c = get_or-push_default None f.parents c

pub children_of-with_root : (f : Trees) (name : List ℕ) (p : ℕ) → children_of (with_root f name) p ≡ children_of f p
children_of-with_root f name p = get_or-push_default [] f.children p

pub children_of-with_child_same : (f : Trees) (p c : ℕ) → p < length f.children → children_of (with_child f p c) p ≡ children_of f p ++ c ∷ []
children_of-with_child_same f p c lt = get_or-set_same f.children p _ [] lt

pub children_of-with_child_other : (f : Trees) (p c q : ℕ) → q ≢ p → children_of (with_child f p c) q ≡ children_of f q
children_of-with_child_other f p c q ne = get_or-set_other f.children p q _ [] ne

-- no concept has a name without a number
pub other_names : (f : Trees) (name : List ℕ) → number_of f name ≡ None → (k : ℕ) (d : List ℕ) → k < length f.names → get_or f.names k d ≢ name
other_names f name none k d lt same =
    let fails : bytes_eq name (get_or f.names k d) ≡ false =
    fails_before_first (bytes_eq name) f.names k d (let le = position-None (bytes_eq name) f.names none in omega arith) in
    true≢false (sym ((bytes_eq-Decides name (get_or f.names k d)).1 (sym same)) ∙ fails)

-- a number's concept has the name
pub name_of-number : (f : Trees) (name : List ℕ) (n : ℕ) → number_of f name ≡ Some n → name_of f n ≡ name
name_of-number f name n e = sym ((bytes_eq-Decides name (name_of f n)).0 (position-Some (bytes_eq name) f.names n [] e).1)

-- without a number no concept has it
pub absent-number : (f : Trees) (name : List ℕ) → number_of f name ≡ None → ¬ Contains f.names name
absent-number f name none there = other_names f name none there.0 name there.1 there.2

-- a new root
pub IsForest-with_root : (f : Trees) (name : List ℕ) → IsForest f → number_of f name ≡ None → length f.names + 1 < 2 ^ 32 → IsForest (with_root f name)
IsForest-with_root f name h none room =
    let longer = length_push f.names name in
    record {
      parents_counted = length_push f.parents None ∙ ap (λ n. n + 1) h.parents_counted ∙ sym longer;
      children_counted = length_push f.children [] ∙ ap (λ n. n + 1) h.children_counted ∙ sym longer;
      countable = omega arith;
      names_apart = all_pairs_push (λ x y. x ≢ y) f.names name h.names_apart (other_names f name none);
      parents_within = λ c p e. (let lt = h.parents_within c p (sym (parent_of-with_root f name c) ∙ e) in omega arith);
      children_within = λ p. subst (All (λ c. c < length (f.names ++ name ∷ []))) (sym (children_of-with_root f name p)) (λ k d lt. (let within = h.children_within p k d lt in omega arith));
      listed = λ p c. (
        λ there. parent_of-with_root f name c ∙ (h.listed p c).0 (subst (λ l. Contains l c) (children_of-with_root f name p) there),
        λ e. subst (λ l. Contains l c) (sym (children_of-with_root f name p)) ((h.listed p c).1 (sym (parent_of-with_root f name c) ∙ e)),
      );
      once = λ p. subst (AllPairs (λ c d. c ≢ d)) (sym (children_of-with_root f name p)) (h.once p);
      no_cycle = λ c up. h.no_cycle c (IsAncestor-kept (λ x p e. sym (parent_of-with_root f name x) ∙ e) up);
    }

-- a root put under p, which is not below it
pub IsForest-with_child : (f : Trees) (p c : ℕ) → IsForest f → p < length f.names → c < length f.names → parent_of f c ≡ None → c ≢ p → ¬ IsAncestor f c p → IsForest (with_child f p c)
IsForest-with_child f p c h p_within c_within is_root ne not_above =
    record {
      parents_counted = length-set f.parents c (Some p) ∙ h.parents_counted;
      children_counted = length-set f.children p _ ∙ h.children_counted;
      countable = h.countable;
      names_apart = h.names_apart;
      parents_within = λ x q e. elim (cases_eq x c) [
        | inl same ↦ (let g : Some p ≡ Some q = sym (parent_of-with_child_same f p c c_in) ∙ ap (parent_of (with_child f p c)) (sym same) ∙ e in subst (λ y. y < length f.names) (cc) p_within)
        | inr other ↦ h.parents_within x q (sym (parent_of-with_child_other f p c x other) ∙ e)
      ];
      children_within = λ q. elim (cases_eq q p) [
        | inl same ↦ subst (All (λ x. x < length f.names)) (sym (now_p q same)) (All-push (λ x. x < length f.names) (children_of f p) c (h.children_within p) c_within)
        | inr other ↦ subst (All (λ x. x < length f.names)) (sym (children_of-with_child_other f p c q other)) (h.children_within q)
      ];
      listed = λ q x. (listed_to q x, listed_from q x);
      once = λ q. elim (cases_eq q p) [
        | inl same ↦ subst (AllPairs (λ x y. x ≢ y)) (sym (now_p q same))
            (all_pairs_push (λ x y. x ≢ y) (children_of f p) c (h.once p)
            (λ k d lt e. new_child (subst (Contains (children_of f p)) e (Contains-get_or (children_of f p) k d lt))))
        | inr other ↦ subst (AllPairs (λ x y. x ≢ y)) (sym (children_of-with_child_other f p c q other)) (h.once q)
      ];
      no_cycle = λ x up. elim (IsAncestor-with_child f p c c_in up) [
        | inl old ↦ h.no_cycle x old
        | inr new ↦ elim new.0 [
          | inl at ↦ elim new.1 [
            | inl top ↦ ne (sym at ∙ top)
            | inr above ↦ not_above (subst (λ y. IsAncestor f y p) at above)
          ]
          | inr below ↦ elim new.1 [
            | inl top ↦ not_above (subst (IsAncestor f c) top below)
            | inr above ↦ not_above (IsAncestor-trans below above)
          ]
        ]
      ];
    }
  where
    c_in : c < length f.parents
    c_in = omega (arith, h.parents_counted)

    p_in : p < length f.children
    p_in = omega (arith, h.children_counted)

    now_p : (q : ℕ) → q ≡ p → children_of (with_child f p c) q ≡ children_of f p ++ c ∷ []
    now_p q same = ap (children_of (with_child f p c)) same ∙ children_of-with_child_same f p c p_in

    new_child : ¬ Contains (children_of f p) c
    new_child there = let g : Some p ≡ None = sym ((h.listed p c).0 there) ∙ is_root in cc

    listed_to : (q x : ℕ) → Contains (children_of (with_child f p c) q) x → parent_of (with_child f p c) x ≡ Some q
    listed_to q x there = elim (cases_eq q p) [
      | inl same ↦ elim (Contains-push_cases (children_of f p) c x (subst (λ l. Contains l x) (now_p q same) there)) [
        | inl old ↦ (
            let was : parent_of f x ≡ Some p = (h.listed p x).0 old in
            parent_of-with_child_other f p c x (λ e. new_child (subst (Contains (children_of f p)) e old)) ∙ was ∙ ap Some (sym same))
        | inr at ↦ ap (parent_of (with_child f p c)) (sym at) ∙ parent_of-with_child_same f p c c_in ∙ ap Some (sym same)
      ]
      | inr other ↦ (
          let old : parent_of f x ≡ Some q = (h.listed q x).0 (subst (λ l. Contains l x) (children_of-with_child_other f p c q other) there) in
          parent_of-with_child_other f p c x (λ e. (let g : Some q ≡ None = sym old ∙ ap (parent_of f) e ∙ is_root in cc)) ∙ old)
    ]

    listed_from : (q x : ℕ) → parent_of (with_child f p c) x ≡ Some q → Contains (children_of (with_child f p c) q) x
    listed_from q x e = elim (cases_eq x c) [
      | inl same ↦ (
          let at : q ≡ p = (let g : Some p ≡ Some q = sym (parent_of-with_child_same f p c c_in) ∙ ap (parent_of (with_child f p c)) (sym same) ∙ e in cc) in
          subst (λ l. Contains l x) (sym (now_p q at)) (subst (Contains (children_of f p ++ c ∷ [])) (sym same) (Contains-push (children_of f p) c)))
      | inr other ↦ (
          let old : Contains (children_of f q) x = (h.listed q x).1 (sym (parent_of-with_child_other f p c x other) ∙ e) in
          elim (cases_eq q p) [
            | inl same ↦ subst (λ l. Contains l x) (sym (now_p q same)) (Contains-append_left (children_of f p) (c ∷ []) x (subst (λ y. Contains (children_of f y) x) same old))
            | inr apart ↦ subst (λ l. Contains l x) (sym (children_of-with_child_other f p c q apart)) old
          ])
    ]

-- no concepts are a forest
pub IsForest-no_trees : IsForest no_trees
IsForest-no_trees =
    record {
      parents_counted = refl;
      children_counted = refl;
      countable = omega arith;
      names_apart = λ i j d lt in'. absurd (omega arith);
      parents_within = λ c p e. absurd (cc);
      children_within = λ p k d in'. absurd (omega arith);
      listed = λ p c. (λ there. absurd (let in' : there.0 < 0 = there.1 in omega arith), λ e. absurd (cc));
      once = λ p i j d lt in'. absurd (omega arith);
      no_cycle = λ c up. rootless up;
    }
  where
    rootless : {u c : ℕ} → ¬ IsAncestor no_trees u c
    rootless (parent e) = cc
    rootless (further e up) = cc
