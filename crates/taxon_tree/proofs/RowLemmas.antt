-- What each step of a row gives.
use Rattle.std.proofs.Common.{◌≡◌, ◌≢◌, ◌+◌, ◌-◌, ◌≤◌, ◌<◌, ◌^◌, ◌==◌, ◌||◌, ◌⊎◌, ℕ, Bool, true, false, not, cond, List, [], ◌∷◌, Option, None, Some, Result, Ok, Err, OnOk, OnErr, is_some, nat_le, length, map, take, drop, get_or, refl, sym, ap, subst, ◌∙◌, inl, inr, arith}
use Rattle.std.specs.Str.{bytes_eq}
use Rattle.std.proofs.lemmas.Bool.{cases_lt, cases_Bool, lt-ltb, le-leb, lt-leb, or_parts, or_left, or_right, eqb-false, ne_eqb, eq-eqb, cases_eq}
use Rattle.std.proofs.lemmas.Bool.Decides.{not_from_Decides}
use Rattle.std.proofs.lemmas.List.{length_push, drop_more, take_rest, take_all, take_at}
use Rattle.std.proofs.lemmas.List.Sums.{prefix_len-le-length}
use Rattle.taxon_tree.specs.Trees.{Trees, parent_of, number_of, IsAncestor, IsForest}
use Rattle.taxon_tree.specs.Ancestry.{is_ancestor}
use Rattle.taxon_tree.specs.Row.{fail_if, and_then, with_root, with_child, place_of, with_name, is_another, is_this, with_link, add_child, add_children, add_row}
use Rattle.taxon_tree.specs.Undo.{Grown, first_concepts}
use Rattle.taxon_tree.specs.Undo.Grown.{root, child}
use Rattle.taxon_tree.specs.declared.ForestFault.{ForestFault}
use Rattle.taxon_tree.specs.declared.ForestFault.TheVariants.{TooManyConcepts, TwoParents, ChildTwice, Cycle}
use Rattle.taxon_tree.proofs.ListLemmas.{position-None, same_trees}
use Rattle.taxon_tree.proofs.AncestryLemmas.{Decides-is_ancestor}
use Rattle.taxon_tree.proofs.ForestLemmas.{IsForest-with_root, IsForest-with_child}

-- the place of a name that is there
pub place_of-found : (f : Trees) (name : List ℕ) (k : ℕ) → number_of f name ≡ Some k → (place_of f name ≡ k) × (k < length f.names)
place_of-found f name k e = elim (cases_lt (place_of f name) (length f.names)) [
  | inl lt ↦ (
      let some : number_of f name ≡ Some (place_of f name) = ap (λ b. cond b (Some (place_of f name)) None) (lt-ltb _ _ lt) in
      let at : place_of f name ≡ k = (let g : Some (place_of f name) ≡ Some k = sym some ∙ e in cc) in
      (at, subst (λ n. n < length f.names) at lt))
  | inr le ↦ absurd (let none : number_of f name ≡ None = ap (λ b. cond b (Some (place_of f name)) None) (lt-leb _ _ (omega arith)) in let g : Some k ≡ None = sym e ∙ none in cc)
]

-- a new name goes last
pub place_of-new : (f : Trees) (name : List ℕ) → number_of f name ≡ None → place_of f name ≡ length f.names
place_of-new f name none =
    let most = prefix_len-le-length (λ x. not (bytes_eq name x)) f.names in
    let least = position-None (bytes_eq name) f.names none in
    omega arith

-- the three ways of a name
pub with_name-found : (limit : ℕ) (f : Trees) (name : List ℕ) (k : ℕ) → number_of f name ≡ Some k → with_name limit f name ≡ Ok f
unfolding with_name
with_name-found limit f name k e = ap (λ o. cond (is_some o) (Ok f) (fail_if (nat_le limit (length f.names)) TooManyConcepts (Ok (with_root f name)))) e

pub with_name-full : (limit : ℕ) (f : Trees) (name : List ℕ) → number_of f name ≡ None → limit ≤ length f.names → with_name limit f name ≡ Err TooManyConcepts
unfolding with_name
with_name-full limit f name e le =
    ap (λ o. cond (is_some o) (Ok f) (fail_if (nat_le limit (length f.names)) TooManyConcepts (Ok (with_root f name)))) e
    ∙ ap (λ b. fail_if b TooManyConcepts (Ok (with_root f name))) (le-leb _ _ le)

pub with_name-new : (limit : ℕ) (f : Trees) (name : List ℕ) → number_of f name ≡ None → length f.names < limit → with_name limit f name ≡ Ok (with_root f name)
unfolding with_name
with_name-new limit f name e lt =
    ap (λ o. cond (is_some o) (Ok f) (fail_if (nat_le limit (length f.names)) TooManyConcepts (Ok (with_root f name)))) e
    ∙ ap (λ b. fail_if b TooManyConcepts (Ok (with_root f name))) (lt-leb _ _ lt)

-- what it gives is what was there, or has a new root
pub record NamesRoot (limit : ℕ) (f : Trees) (name : List ℕ) (g : Trees) : Type 0 where
  pub is : g ≡ with_root f name
  pub new : number_of f name ≡ None
  pub room : length f.names < limit

pub with_name-Ok : (limit : ℕ) (f : Trees) (name : List ℕ) (g : Trees) → with_name limit f name ≡ Ok g → (g ≡ f) ⊎ NamesRoot limit f name g
with_name-Ok limit f name g e = by (number_of f name) refl
  where
    by : (o : Option ℕ) → number_of f name ≡ o → (g ≡ f) ⊎ NamesRoot limit f name g
    by (Some k) h = inl (let s : Ok g ≡ Ok f = sym e ∙ with_name-found limit f name k h in cc)
    by None h = elim (cases_lt (length f.names) limit) [
      | inl lt ↦ inr (record { is = (let s : Ok g ≡ Ok (with_root f name) = sym e ∙ with_name-new limit f name h lt in cc); new = h; room = lt })
      | inr le ↦ absurd (let s : Ok g ≡ Err TooManyConcepts = sym e ∙ with_name-full limit f name h le in cc)
    ]

-- so a forest stays one
pub IsForest-with_name : (limit : ℕ) (f : Trees) (name : List ℕ) (g : Trees) → limit < 2 ^ 32 → IsForest f → with_name limit f name ≡ Ok g → IsForest g
IsForest-with_name limit f name g small h e = elim (with_name-Ok limit f name g e) [
  | inl kept ↦ subst IsForest (sym kept) h
  | inr named ↦ subst IsForest (sym named.is) (IsForest-with_root f name h named.new (omega (arith, named.room)))
]

pub Grown-with_name : (start : Trees) (parent limit : ℕ) (f : Trees) (name : List ℕ) (g : Trees) → Grown start parent f → with_name limit f name ≡ Ok g → Grown start parent g
Grown-with_name start parent limit f name g h e = elim (with_name-Ok limit f name g e) [
  | inl kept ↦ subst (Grown start parent) (sym kept) h
  | inr named ↦ subst (Grown start parent) (sym named.is) (root name h)
]

-- a link, by the parent that the child has
abbrev link_by : ℕ → Trees → ℕ → Option ℕ → Bool → Result Trees ForestFault
link_by parent f c o above = fail_if (is_another parent o) TwoParents (fail_if (is_this parent o) ChildTwice (fail_if above Cycle (Ok (with_child f parent c))))

with_link-link_by : (parent : ℕ) (f : Trees) (c : ℕ) → with_link parent f c ≡ link_by parent f c (parent_of f c) (c == parent || is_ancestor f c parent)
unfolding with_link
with_link-link_by parent f c = refl

-- the ways of a link
pub with_link-another : (parent : ℕ) (f : Trees) (c p : ℕ) → parent_of f c ≡ Some p → p ≢ parent → with_link parent f c ≡ Err TwoParents
with_link-another parent f c p e ne =
    let rest : Bool = c == parent || is_ancestor f c parent in
    with_link-link_by parent f c ∙ ap (λ o. link_by parent f c o rest) e
    ∙ ap (λ b. fail_if (not b) TwoParents (fail_if b ChildTwice (fail_if rest Cycle (Ok (with_child f parent c))))) (ne_eqb p parent ne)

pub with_link-this : (parent : ℕ) (f : Trees) (c : ℕ) → parent_of f c ≡ Some parent → with_link parent f c ≡ Err ChildTwice
with_link-this parent f c e =
    let rest : Bool = c == parent || is_ancestor f c parent in
    with_link-link_by parent f c ∙ ap (λ o. link_by parent f c o rest) e
    ∙ ap (λ b. fail_if (not b) TwoParents (fail_if b ChildTwice (fail_if rest Cycle (Ok (with_child f parent c))))) (eq-eqb parent parent refl)

pub with_link-root : (parent : ℕ) (f : Trees) (c : ℕ) → parent_of f c ≡ None → (above : Bool) → (c == parent || is_ancestor f c parent) ≡ above
    → with_link parent f c ≡ fail_if above Cycle (Ok (with_child f parent c))
with_link-root parent f c e above h =
    with_link-link_by parent f c ∙ ap (λ o. link_by parent f c o (c == parent || is_ancestor f c parent)) e ∙ ap (λ b. fail_if b Cycle (Ok (with_child f parent c))) h

-- what it gives is the link of a root that is neither the parent nor above it
pub record LinksRoot (parent : ℕ) (f : Trees) (c : ℕ) (g : Trees) : Type 0 where
  pub is : g ≡ with_child f parent c
  pub root : parent_of f c ≡ None
  pub apart : c ≢ parent
  pub not_above : ¬ IsAncestor f c parent

pub with_link-Ok : (parent : ℕ) (f : Trees) (c : ℕ) (g : Trees) → with_link parent f c ≡ Ok g → LinksRoot parent f c g
with_link-Ok parent f c g e = by (parent_of f c) refl
  where
    by : (o : Option ℕ) → parent_of f c ≡ o → LinksRoot parent f c g
    by (Some p) h = elim (cases_eq p parent) [
      | inl at ↦ absurd (let s : Ok g ≡ Err ChildTwice = sym e ∙ with_link-this parent f c (h ∙ ap Some at) in cc)
      | inr ne ↦ absurd (let s : Ok g ≡ Err TwoParents = sym e ∙ with_link-another parent f c p h ne in cc)
    ]
    by None h = elim (cases_Bool (c == parent || is_ancestor f c parent)) [
      | inl met ↦ absurd (let s : Ok g ≡ Err Cycle = sym e ∙ with_link-root parent f c h true met in cc)
      | inr unmet ↦ (
          let parts = or_parts (c == parent) (is_ancestor f c parent) unmet in
          record {
            is = (let s : Ok g ≡ Ok (with_child f parent c) = sym e ∙ with_link-root parent f c h false unmet in cc);
            root = h;
            apart = eqb-false c parent parts.0;
            not_above = not_from_Decides (is_ancestor f c parent) (Decides-is_ancestor f c parent) parts.1;
          })
    ]

-- so a forest stays one
pub IsForest-with_link : (parent : ℕ) (f : Trees) (c : ℕ) (g : Trees) → IsForest f → parent < length f.names → c < length f.names → with_link parent f c ≡ Ok g → IsForest g
IsForest-with_link parent f c g h p_in c_in e =
    let links = with_link-Ok parent f c g e in
    subst IsForest (sym links.is) (IsForest-with_child f parent c h p_in c_in links.root links.apart links.not_above)

pub Grown-with_link : (start : Trees) (parent : ℕ) (f : Trees) (c : ℕ) (g : Trees) → IsForest f → c < length f.names → Grown start parent f → with_link parent f c ≡ Ok g → Grown start parent g
Grown-with_link start parent f c g h c_in was e =
    let links = with_link-Ok parent f c g e in
    subst (Grown start parent) (sym links.is) (child c (omega (arith, h.parents_counted)) links.root was)

-- the ways of a name, and of a link, for the steps of the code
pub ruleset name_ways = (with_name-found, with_name-full, with_name-new, place_of-found, place_of-new)

pub ruleset link_ways = (with_link-another, with_link-this, with_link-root, or_left, or_right)

-- no name goes
pub length-with_name : (limit : ℕ) (f : Trees) (name : List ℕ) (g : Trees) → with_name limit f name ≡ Ok g → length f.names ≤ length g.names
length-with_name limit f name g e = elim (with_name-Ok limit f name g e) [
  | inl kept ↦ subst (λ h. length f.names ≤ length h.names) (sym kept) (omega arith)
  | inr named ↦ subst (λ h. length f.names ≤ length h.names) (sym named.is) (omega (arith, length_push f.names name))
]

-- after a try to link, whether it came about or not
module _ {T : Type 0} (parent : ℕ) (f : Trees) (c : ℕ) (g : Trees) (h : IsForest f) (c_in : c < length f.names) where
  pub IsForest-tried : parent < length f.names → (r : Result T ForestFault) → OnOk r (with_link parent f c ≡ Ok g) → OnErr r (g ≡ f) → IsForest g
  IsForest-tried p_in (Ok x) ok err = IsForest-with_link parent f c g h p_in c_in ok
  IsForest-tried p_in (Err k) ok err = subst IsForest (sym err) h

  pub Grown-tried : (start : Trees) → Grown start parent f → (r : Result T ForestFault) → OnOk r (with_link parent f c ≡ Ok g) → OnErr r (g ≡ f) → Grown start parent g
  Grown-tried start was (Ok x) ok err = Grown-with_link start parent f c g h c_in was ok
  Grown-tried start was (Err k) ok err = subst (Grown start parent) (sym err) was

  pub length-tried : (r : Result T ForestFault) → OnOk r (with_link parent f c ≡ Ok g) → OnErr r (g ≡ f) → length f.names ≡ length g.names
  length-tried (Ok x) ok err = ap (λ t. length t.names) (sym (with_link-Ok parent f c g ok).is)
  length-tried (Err k) ok err = ap (λ t. length t.names) (sym err)

-- a row's children from the place i on: one further, or at a fault
module _ {X : Type 0} (bytes : X → List ℕ) (limit parent : ℕ) (f : Trees) (xs : List X) (i : ℕ) (d : X) (lt : i < length xs) where
  first_child : add_children limit parent f (map bytes (drop i xs))
      ≡ and_then (add_child limit parent f (bytes (get_or xs i d))) (λ g. add_children limit parent g (map bytes (drop (i + 1) xs)))
  first_child = ap (λ l. add_children limit parent f (map bytes l)) (drop_more xs i d lt)

  pub add_children-further : (g : Trees) → add_child limit parent f (bytes (get_or xs i d)) ≡ Ok g → add_children limit parent f (map bytes (drop i xs)) ≡ add_children limit parent g (map bytes (drop (i + 1) xs))
  add_children-further g e = first_child ∙ ap (λ r. and_then r (λ h. add_children limit parent h (map bytes (drop (i + 1) xs)))) e

  pub add_children-fault : (k : ForestFault) → add_child limit parent f (bytes (get_or xs i d)) ≡ Err k → add_children limit parent f (map bytes (drop i xs)) ≡ Err k
  add_children-fault k e = first_child ∙ ap (λ r. and_then r (λ h. add_children limit parent h (map bytes (drop (i + 1) xs)))) e

-- a row is its first name, and then the children
pub add_row-first : {X : Type 0} (bytes : X → List ℕ) (limit : ℕ) (f : Trees) (xs : List X) (d : X) → 0 < length xs → (name : List ℕ) → name ≡ bytes (get_or xs 0 d)
    → (g : Trees) → with_name limit f name ≡ Ok g → (parent : ℕ) → parent ≡ place_of f name
    → add_row limit f (map bytes xs) ≡ add_children limit parent g (map bytes (take (length xs - 1) (drop 1 xs)))
add_row-first bytes limit f xs d lt name is g ok parent at =
    ap (λ l. add_row limit f (map bytes l)) (drop_more xs 0 d lt)
    ∙ ap (λ n. and_then (with_name limit f n) (λ h. add_children limit (place_of f n) h (map bytes (drop 1 xs)))) (sym is)
    ∙ ap (λ r. and_then r (λ h. add_children limit (place_of f name) h (map bytes (drop 1 xs)))) ok
    ∙ ap (λ p. add_children limit p g (map bytes (drop 1 xs))) (sym at)
    ∙ ap (λ l. add_children limit parent g (map bytes l)) (sym (take_rest xs 1))

-- without the new name it is the old forest
pub first_concepts-with_name : (limit : ℕ) (f : Trees) (name : List ℕ) (g : Trees) → IsForest f → with_name limit f name ≡ Ok g → first_concepts (length f.names) g ≡ f
first_concepts-with_name limit f name g h e = elim (with_name-Ok limit f name g e) [
  | inl kept ↦ ap (first_concepts (length f.names)) kept
      ∙ same_trees _ _ (take_all _ f.names (omega arith)) (take_all _ f.parents (omega (arith, h.parents_counted))) (take_all _ f.children (omega (arith, h.children_counted)))
  | inr named ↦ ap (first_concepts (length f.names)) named.is
      ∙ same_trees _ _ (take_at f.names (name ∷ []) _ refl) (take_at f.parents (None ∷ []) _ h.parents_counted) (take_at f.children ([] ∷ []) _ h.children_counted)
]

-- the place of a name is a concept's once the name is in place
place_of-within : (limit : ℕ) (f : Trees) (name : List ℕ) (g : Trees) → with_name limit f name ≡ Ok g → place_of f name < length g.names
place_of-within limit f name g e = by (number_of f name) refl
  where
    by : (o : Option ℕ) → number_of f name ≡ o → place_of f name < length g.names
    by (Some k) h =
        let found = place_of-found f name k h in
        let longer = length-with_name limit f name g e in
        omega arith
    by None h = elim (cases_lt (length f.names) limit) [
      | inl lt ↦ (
          let is : g ≡ with_root f name = (let s : Ok g ≡ Ok (with_root f name) = sym e ∙ with_name-new limit f name h lt in cc) in
          let last = place_of-new f name h in
          subst (λ t. place_of f name < length t.names) (sym is) (omega (arith, length_push f.names name)))
      | inr le ↦ absurd (let s : Ok g ≡ Err TooManyConcepts = sym e ∙ with_name-full limit f name h le in cc)
    ]

-- what a step gives after a step that may fail
pub and_then-Ok : (r : Result Trees ForestFault) (next : Trees → Result Trees ForestFault) (g : Trees) → and_then r next ≡ Ok g → (f : Trees) × (r ≡ Ok f) × (next f ≡ Ok g)
and_then-Ok (Ok f) next g e = (f, refl, e)
and_then-Ok (Err k) next g e = absurd (cc)

-- the rows of a forest leave it a forest
IsForest-add_child : (limit parent : ℕ) (f : Trees) (name : List ℕ) (g : Trees) → limit < 2 ^ 32 → IsForest f → parent < length f.names
    → add_child limit parent f name ≡ Ok g → IsForest g × (parent < length g.names)
IsForest-add_child limit parent f name g small h p_in e =
    let s = and_then-Ok (with_name limit f name) (λ t. with_link parent t (place_of f name)) g e in
    let longer = length-with_name limit f name s.0 s.1 in
    let named = IsForest-with_name limit f name s.0 small h s.1 in
    let links = with_link-Ok parent s.0 (place_of f name) g s.2 in (
      IsForest-with_link parent s.0 (place_of f name) g named (omega arith) (place_of-within limit f name s.0 s.1) s.2,
      subst (λ t. parent < length t.names) (sym links.is) (omega arith),
    )

IsForest-add_children : (limit parent : ℕ) (f : Trees) (names : List (List ℕ)) (g : Trees) → limit < 2 ^ 32 → IsForest f → parent < length f.names
    → add_children limit parent f names ≡ Ok g → IsForest g
IsForest-add_children limit parent f [] g small h p_in e = subst IsForest (let s : f ≡ g = cc in s) h
IsForest-add_children limit parent f (name ∷ names) g small h p_in e =
    let s = and_then-Ok (add_child limit parent f name) (λ t. add_children limit parent t names) g e in
    let next = IsForest-add_child limit parent f name s.0 small h p_in s.1 in
    IsForest-add_children limit parent s.0 names g small next.0 next.1 s.2

pub IsForest-add_row : (limit : ℕ) (f : Trees) (names : List (List ℕ)) (g : Trees) → limit < 2 ^ 32 → IsForest f → add_row limit f names ≡ Ok g → IsForest g
IsForest-add_row limit f [] g small h e = subst IsForest (let s : f ≡ g = cc in s) h
IsForest-add_row limit f (name ∷ names) g small h e =
    let s = and_then-Ok (with_name limit f name) (λ t. add_children limit (place_of f name) t names) g e in
    IsForest-add_children limit (place_of f name) s.0 names g small (IsForest-with_name limit f name s.0 small h s.1) (place_of-within limit f name s.0 s.1) s.2
