-- What a row makes of trees with one root, where its children have other names than the root.
use Rattle.std.proofs.Common.{◌≡◌, ◌≢◌, ◌+◌, ◌<◌, ℕ, List, [], ◌∷◌, ◌++◌, Option, None, Some, Result, Ok, Err, length, set, get_or, refl, sym, ap, subst, ◌∙◌, inl, inr, arith}
use Rattle.std.specs.Prelude.{replicate, codes}
use Rattle.std.specs.List.{range_with_len}
use Rattle.std.proofs.lemmas.Bool.{cases_lt}
use Rattle.std.proofs.lemmas.List.{append_assoc, append-nil, length-append, set-append_left, get_or_append_left, get_or-set_same, set-set, set-get_or, length-set}
use Rattle.std.proofs.Math.Seq.{set-append_seam, get_or-append_seam}
use Rattle.taxon_tree.specs.Trees.{Trees, name_of, parent_of, children_of, number_of}
use Rattle.taxon_tree.specs.Row.{and_then, with_root, with_child, place_of, with_name, with_link, add_child, add_children, add_row}
use Rattle.taxon_tree.specs.declared.ForestFault.{ForestFault}
use Rattle.taxon_tree.specs.declared.ForestFault.TheVariants.{TooManyConcepts}
use Rattle.taxon_tree.proofs.ListLemmas.{same_trees}
use Rattle.taxon_tree.proofs.ForestLemmas.{children_of-with_root, name_of-number}
use Rattle.taxon_tree.proofs.RowLemmas.{place_of-found, place_of-new, with_name-found, with_name-full, with_name-new, with_link-Ok}

-- the trees have one root, which stands first and is called so, and as many parents and child lists as names
pub record HasRoot (f : Trees) : Type 0 where
  pub some : 0 < length f.names
  pub parents_counted : length f.parents ≡ length f.names
  pub children_counted : length f.children ≡ length f.names
  pub first : name_of f 0 ≡ codes "r"
  pub only : (c : ℕ) → c < length f.names → parent_of f c ≡ None → c ≡ 0

-- the trees with these new children of a concept
abbrev pub with_kids : ℕ → Trees → List (List ℕ) → Trees
with_kids p f kids = record {
  names = f.names ++ kids;
  parents = f.parents ++ replicate (length kids) (Some p);
  children = set f.children p (children_of f p ++ range_with_len (length f.names) (length kids)) ++ replicate (length kids) [];
}

-- no name of these is the root's
abbrev pub NoRoots : List (List ℕ) → Type 0
NoRoots [] = Unit {0}
NoRoots (name ∷ names) = (name ≢ codes "r") × NoRoots names

then_Ok : (made : Result Trees ForestFault) (next : Trees → Result Trees ForestFault) (g : Trees) → and_then made next ≡ Ok g → (f : Trees) × (made ≡ Ok f) × (next f ≡ Ok g)
then_Ok (Ok f) next g e = (f, refl, e)
then_Ok (Err fault) next g e = absurd (cc)

-- a link of the concept that came last
linked : (p : ℕ) (f : Trees) (name : List ℕ) (g : Trees) → HasRoot f → p < length f.names
    → with_link p (with_root f name) (length f.names) ≡ Ok g → g ≡ with_kids p f (name ∷ [])
linked p f name g h lt e =
    let links = with_link-Ok p (with_root f name) (length f.names) g e in
    let n = length f.names in
    let counted : length f.parents ≡ n = h.parents_counted in
    let within : p < length f.children = omega (arith, h.children_counted) in
    let parents : set (f.parents ++ None ∷ []) n (Some p) ≡ f.parents ++ Some p ∷ [] =
    ap (λ i. set (f.parents ++ None ∷ []) i (Some p)) (sym counted) ∙ set-append_seam f.parents None [] (Some p) in
    let now : children_of (with_root f name) p ≡ children_of f p = children_of-with_root f name p in
    let children : set (f.children ++ [] ∷ []) p (children_of (with_root f name) p ++ n ∷ []) ≡ set f.children p (children_of f p ++ n ∷ []) ++ [] ∷ [] =
    ap (λ list. set (f.children ++ [] ∷ []) p (list ++ n ∷ [])) now ∙ set-append_left f.children ([] ∷ []) p (children_of f p ++ n ∷ []) within in
    links.is ∙ same_trees (with_child (with_root f name) p n) (with_kids p f (name ∷ [])) refl parents children

-- one child
kid_put : (limit p : ℕ) (f : Trees) (name : List ℕ) (g : Trees) → HasRoot f → p < length f.names → name ≢ codes "r"
    → add_child limit p f name ≡ Ok g → g ≡ with_kids p f (name ∷ [])
kid_put limit p f name g h lt other e = by (number_of f name) refl
  where
    made : (t : Trees) × (with_name limit f name ≡ Ok t) × (with_link p t (place_of f name) ≡ Ok g)
    made = then_Ok (with_name limit f name) (λ t. with_link p t (place_of f name)) g e

    by : (o : Option ℕ) → number_of f name ≡ o → g ≡ with_kids p f (name ∷ [])
    by (Some k) found =
        let place = place_of-found f name k found in
        let same : Ok made.0 ≡ Ok f = sym made.1 ∙ with_name-found limit f name k found in
        let is : made.0 ≡ f = cc in
        let link : with_link p f k ≡ Ok g = subst (λ t. with_link p t k ≡ Ok g) is (subst (λ c. with_link p made.0 c ≡ Ok g) place.0 made.2) in
        let links = with_link-Ok p f k g link in
        let zeroth : k ≡ 0 = h.only k place.1 links.root in
        absurd (other (sym (name_of-number f name k found) ∙ ap (name_of f) zeroth ∙ h.first))
    by None new = elim (cases_lt (length f.names) limit) [
      | inl room ↦ (
          let same : Ok made.0 ≡ Ok (with_root f name) = sym made.1 ∙ with_name-new limit f name new room in
          let is : made.0 ≡ with_root f name = cc in
          linked p f name g h lt (subst (λ t. with_link p t (length f.names) ≡ Ok g) is (subst (λ c. with_link p made.0 c ≡ Ok g) (place_of-new f name new) made.2)))
      | inr full ↦ absurd (let same : Ok made.0 ≡ Err TooManyConcepts = sym made.1 ∙ with_name-full limit f name new full in cc)
    ]

-- more children keep the one root
rooted : (p : ℕ) (f : Trees) (name : List ℕ) → HasRoot f → HasRoot (with_kids p f (name ∷ []))
rooted p f name h = record {
  some = omega (arith, h.some, length-append f.names (name ∷ []));
  parents_counted = omega (arith, length-append f.parents (Some p ∷ []), length-append f.names (name ∷ []), h.parents_counted);
  children_counted = omega (arith, length-append changed ([] ∷ []), length-append f.names (name ∷ []), length-set f.children p (children_of f p ++ length f.names ∷ []), h.children_counted);
  first = get_or_append_left f.names (name ∷ []) [] 0 h.some ∙ h.first;
  only = only;
}
  where
    changed : List (List ℕ)
    changed = set f.children p (children_of f p ++ length f.names ∷ [])

    only : (c : ℕ) → c < length (f.names ++ name ∷ []) → get_or (f.parents ++ Some p ∷ []) c None ≡ None → c ≡ 0
    only c lt none = elim (cases_lt c (length f.names)) [
      | inl old ↦ (
          let in_old : c < length f.parents = omega (arith, h.parents_counted) in
          h.only c old (sym (get_or_append_left f.parents (Some p ∷ []) None c in_old) ∙ none))
      | inr last ↦ (
          let at : c ≡ length f.parents = omega (arith, h.parents_counted, length-append f.names (name ∷ [])) in
          let some : get_or (f.parents ++ Some p ∷ []) c None ≡ Some p = ap (λ i. get_or (f.parents ++ Some p ∷ []) i None) at ∙ get_or-append_seam f.parents (Some p) [] None in
          let clash : Some p ≡ None = sym some ∙ none in
          absurd (cc))
    ]

-- one child and then others
joined : (p : ℕ) (f : Trees) (name : List ℕ) (names : List (List ℕ)) → HasRoot f → p < length f.names
    → with_kids p (with_kids p f (name ∷ [])) names ≡ with_kids p f (name ∷ names)
joined p f name names h lt = same_trees (with_kids p (with_kids p f (name ∷ [])) names) (with_kids p f (name ∷ names)) on_names on_parents on_children
  where
    n : ℕ
    n = length f.names

    k : ℕ
    k = length names

    on_names : (f.names ++ name ∷ []) ++ names ≡ f.names ++ name ∷ names
    on_names = append_assoc f.names (name ∷ []) names

    on_parents : (f.parents ++ Some p ∷ []) ++ replicate k (Some p) ≡ f.parents ++ Some p ∷ replicate k (Some p)
    on_parents = append_assoc f.parents (Some p ∷ []) (replicate k (Some p))

    old : List ℕ
    old = children_of f p

    within : p < length f.children
    within = omega (arith, h.children_counted)

    one : List (List ℕ)
    one = set f.children p (old ++ n ∷ [])

    in_one : p < length one
    in_one = omega (arith, length-set f.children p (old ++ n ∷ []), within)

    had : get_or (one ++ [] ∷ []) p [] ≡ old ++ n ∷ []
    had = get_or_append_left one ([] ∷ []) [] p in_one ∙ get_or-set_same f.children p (old ++ n ∷ []) [] within

    count : length (f.names ++ name ∷ []) ≡ n + 1
    count = length-append f.names (name ∷ [])

    all : List ℕ
    all = old ++ n ∷ range_with_len (n + 1) k

    more : get_or (one ++ [] ∷ []) p [] ++ range_with_len (length (f.names ++ name ∷ [])) k ≡ all
    more = ap (λ list. list ++ range_with_len (length (f.names ++ name ∷ [])) k) had ∙ ap (λ m. (old ++ n ∷ []) ++ range_with_len m k) count ∙ append_assoc old (n ∷ []) (range_with_len (n + 1) k)

    on_children : set (one ++ [] ∷ []) p (get_or (one ++ [] ∷ []) p [] ++ range_with_len (length (f.names ++ name ∷ [])) k) ++ replicate k [] ≡ set f.children p all ++ [] ∷ replicate k []
    on_children =
        ap (λ list. set (one ++ [] ∷ []) p list ++ replicate k []) more
        ∙ ap (λ lists. lists ++ replicate k []) (set-append_left one ([] ∷ []) p all in_one ∙ ap (λ lists. lists ++ [] ∷ []) (set-set f.children p (old ++ n ∷ []) all))
        ∙ append_assoc (set f.children p all) ([] ∷ []) (replicate k [])

-- no child
with_none : (p : ℕ) (f : Trees) → p < length f.children → f ≡ with_kids p f []
with_none p f lt = same_trees f (with_kids p f []) (sym (append-nil f.names)) (sym (append-nil f.parents)) on_children
  where
    on_children : f.children ≡ set f.children p (children_of f p ++ []) ++ []
    on_children = sym (append-nil _ ∙ ap (set f.children p) (append-nil (children_of f p)) ∙ set-get_or f.children p [])

-- the children of a row, where it gives trees at all
pub kids_put : (limit p : ℕ) (f : Trees) (names : List (List ℕ)) (g : Trees) → HasRoot f → p < length f.names → NoRoots names
    → add_children limit p f names ≡ Ok g → (g ≡ with_kids p f names) × HasRoot g
kids_put limit p f [] g h lt none e =
    let is : f ≡ g = (let same : Ok f ≡ Ok g = e in cc) in
    let within : p < length f.children = omega (arith, h.children_counted) in
    (sym is ∙ with_none p f within, subst HasRoot is h)
kids_put limit p f (name ∷ names) g h lt none e =
    let made = then_Ok (add_child limit p f name) (λ t. add_children limit p t names) g e in
    let one : made.0 ≡ with_kids p f (name ∷ []) = kid_put limit p f name made.0 h lt none.0 made.1 in
    let rest : add_children limit p (with_kids p f (name ∷ [])) names ≡ Ok g = subst (λ t. add_children limit p t names ≡ Ok g) one made.2 in
    let within : p < length (f.names ++ name ∷ []) = omega (arith, length-append f.names (name ∷ []), lt) in
    let all = kids_put limit p (with_kids p f (name ∷ [])) names g (rooted p f name h) within none.1 rest in
    (all.0 ∙ joined p f name names h lt, all.1)

-- a row whose parent is there
pub row_put : (limit p : ℕ) (f : Trees) (name : List ℕ) (names : List (List ℕ)) (g : Trees) → HasRoot f → number_of f name ≡ Some p → NoRoots names
    → add_row limit f (name ∷ names) ≡ Ok g → (g ≡ with_kids p f names) × HasRoot g
row_put limit p f name names g h found none e =
    let place = place_of-found f name p found in
    let at : and_then (with_name limit f name) (λ t. add_children limit p t names) ≡ Ok g =
    subst (λ c. and_then (with_name limit f name) (λ t. add_children limit c t names) ≡ Ok g) place.0 e in
    let there : and_then (Ok f) (λ t. add_children limit p t names) ≡ Ok g =
    subst (λ made. and_then made (λ t. add_children limit p t names) ≡ Ok g) (with_name-found limit f name p found) at in
    kids_put limit p f names g h place.1 none there
