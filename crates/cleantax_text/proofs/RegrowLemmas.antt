-- A forest grows again from a row for each concept and a row for each concept with children.
use Rattle.std.proofs.Common.{◌≡◌, ◌≢◌, ◌+◌, ◌<◌, ◌≤◌, ◌==◌, ℕ, false, List, [], ◌∷◌, ◌++◌, Option, None, Some, Ok, AllPairs, Contains, length, map, take, get_or, position, refl, sym, ap, subst, ◌∙◌, inl, inr, arith}
use Rattle.std.specs.Prelude.{cond}
use Rattle.std.specs.Str.{bytes_eq}
use Rattle.std.specs.List.{position_or_len}
use Rattle.std.proofs.lemmas.Bool.{cases_order, cases_eq, lt-ltb, le-ltb, ne_eqb, or_from, false_from_ne_true}
use Rattle.std.proofs.lemmas.Slice.Eq.{bytes_eq-Decides}
use Rattle.std.proofs.lemmas.List.{append-nil, append_assoc, length-append, length-take-le, get_or-take, get_or_append_left, get_or_at, take_more, take_all, ext_get_or}
use Rattle.std.proofs.lemmas.List.Elements.{Contains-append_left}
use Rattle.std.proofs.lemmas.List.Sums.{position_or_len_is}
use Rattle.taxon_tree.specs.Trees.{Trees, no_trees, parent_of, children_of, number_of, IsAncestor, IsForest}
use Rattle.taxon_tree.specs.Trees.IsAncestor.{parent, further}
use Rattle.taxon_tree.specs.Ancestry.{is_ancestor}
use Rattle.taxon_tree.specs.Row.{and_then, with_root, with_child, place_of, with_link, add_child, add_children, add_row}
use Rattle.taxon_tree.proofs.ListLemmas.{same_trees}
use Rattle.taxon_tree.proofs.AncestryLemmas.{Decides-is_ancestor, IsAncestor-kept}
use Rattle.taxon_tree.proofs.ForestLemmas.{children_of-with_root, children_of-with_child_same, children_of-with_child_other, IsForest-with_root, IsForest-with_child, IsForest-no_trees}
use Rattle.taxon_tree.proofs.RowLemmas.{place_of-found, with_name-found, with_name-new, with_link-root}

-- a name has its own place where no name stands twice
pub own_position : (names : List (List ℕ)) (k : ℕ) → AllPairs (λ x y. x ≢ y) names → k < length names → position (bytes_eq (get_or names k [])) names ≡ Some k
own_position names k apart within =
    let name = get_or names k [] in
    let at : position_or_len (bytes_eq name) names ≡ k = position_or_len_is (bytes_eq name) names k [] (omega arith)
    (λ j lt. false_from_ne_true (bytes_eq name (get_or names j [])) (λ same. apart j k [] lt within (sym ((bytes_eq-Decides name (get_or names j [])).0 same))))
    (λ lt. (bytes_eq-Decides name name).1 refl) in
    ap (λ b. cond b (Some (position_or_len (bytes_eq name) names)) None) (lt-ltb _ _ (omega arith)) ∙ ap Some at

-- a name that isn't among the first ones
pub no_position : (names : List (List ℕ)) (k : ℕ) → AllPairs (λ x y. x ≢ y) names → k < length names → position (bytes_eq (get_or names k [])) (take k names) ≡ None
no_position names k apart within =
    let name = get_or names k [] in
    let first = take k names in
    let n : length first ≡ k = length-take-le k names (omega arith) in
    let at : position_or_len (bytes_eq name) first ≡ length first = position_or_len_is (bytes_eq name) first (length first) [] (omega arith)
    (λ j lt. false_from_ne_true (bytes_eq name (get_or first j [])) (λ same.
    apart j k [] (omega arith) within (sym (get_or-take k names j [] (omega arith)) ∙ sym ((bytes_eq-Decides name (get_or first j [])).0 same))))
    (λ lt. absurd (omega arith)) in
    ap (λ b. cond b (Some (position_or_len (bytes_eq name) first)) None) (le-ltb _ _ (omega arith))

-- the trees have the first k concepts of f, as roots
pub record HasNames (f : Trees) (k : ℕ) (g : Trees) : Type 0 where
  pub names : g.names ≡ take k f.names
  pub holds : IsForest g
  pub roots : (q : ℕ) → children_of g q ≡ []

pub names_none : (f : Trees) → HasNames f 0 no_trees
names_none f = record { names = refl; holds = IsForest-no_trees; roots = λ q. refl }

-- a row of the next name
module _ (limit : ℕ) (f : Trees) (holds : IsForest f) (room : length f.names ≤ limit) where
  name_row : (k : ℕ) (g : Trees) → k < length f.names → HasNames f k g → add_row limit g (get_or f.names k [] ∷ []) ≡ Ok (with_root g (get_or f.names k []))
  name_row k g lt h =
      let name = get_or f.names k [] in
      let new : number_of g name ≡ None = ap (position (bytes_eq name)) h.names ∙ no_position f.names k holds.names_apart lt in
      let n = length-take-le k f.names (omega arith) in
      let short : length g.names < limit = omega (arith, ap length h.names) in
      ap (λ made. and_then made (λ t. add_children limit (place_of g name) t [])) (with_name-new limit g name new short)

  pub names_more : (k : ℕ) (g : Trees) → k < length f.names → HasNames f k g → (next : Trees) × (add_row limit g (get_or f.names k [] ∷ []) ≡ Ok next) × HasNames f (k + 1) next
  names_more k g lt h =
      let name = get_or f.names k [] in
      let new : number_of g name ≡ None = ap (position (bytes_eq name)) h.names ∙ no_position f.names k holds.names_apart lt in
      let n = length-take-le k f.names (omega arith) in
      let count = holds.countable in (
        with_root g name,
        name_row k g lt h,
        record {
          names = ap (λ ns. ns ++ name ∷ []) h.names ∙ sym (take_more f.names k [] lt);
          holds = IsForest-with_root g name h.holds new (omega (arith, ap length h.names));
          roots = λ q. children_of-with_root g name q ∙ h.roots q;
        },
      )

-- the trees have the concepts of f, the children of those below k, and some children of k
pub record HasRow (f : Trees) (k : ℕ) (kids : List ℕ) (g : Trees) : Type 0 where
  pub names : g.names ≡ f.names
  pub holds : IsForest g
  pub done : (q : ℕ) → q < k → children_of g q ≡ children_of f q
  pub here : children_of g k ≡ kids
  pub later : (q : ℕ) → k < q → children_of g q ≡ []

-- no child stands twice in a row
apart_in : (kids : List ℕ) (c : ℕ) (rest all : List ℕ) → all ≡ kids ++ c ∷ rest → AllPairs (λ x y. x ≢ y) all → ¬ Contains kids c
apart_in kids c rest all is once there =
    let i = there.0 in
    let within : length kids < length all = omega (arith, ap length is, length-append kids (c ∷ rest)) in
    let left : get_or all i c ≡ c = ap (λ l. get_or l i c) is ∙ get_or_append_left kids (c ∷ rest) c i there.1 ∙ there.2 in
    let right : get_or all (length kids) c ≡ c = ap (λ l. get_or l (length kids) c) is ∙ get_or_at kids c rest c (length kids) refl in
    once i (length kids) c there.1 within (left ∙ sym right)

module _ (f : Trees) (holds : IsForest f) (k : ℕ) (kids rest : List ℕ) (all : children_of f k ≡ kids ++ rest) (g : Trees) (h : HasRow f k kids g) where
  sub_children : (q x : ℕ) → Contains (children_of g q) x → Contains (children_of f q) x
  sub_children q x there = elim (cases_order q k) [
    | inl same ↦
        let own : children_of g q ≡ kids = ap (children_of g) same ∙ h.here in
        subst (λ l. Contains l x) (sym all ∙ ap (children_of f) (sym same)) (Contains-append_left kids rest x (subst (λ l. Contains l x) own there))
    | inr other ↦ elim other [
      | inl lt ↦ subst (λ l. Contains l x) (h.done q lt) there
      | inr gt ↦ absurd (let n = ap length (h.later q gt) in let lt = there.1 in omega arith)
    ]
  ]

  sub_parent : (x q : ℕ) → parent_of g x ≡ Some q → parent_of f x ≡ Some q
  sub_parent x q e = (holds.listed q x).0 (sub_children q x ((h.holds.listed q x).1 e))

-- one child more
module _ (f : Trees) (holds : IsForest f) (k c : ℕ) (kids rest : List ℕ) (all : children_of f k ≡ kids ++ c ∷ rest) (within : k < length f.names) (g : Trees) (h : HasRow f k kids g) where
  is_child : Contains (children_of f k) c
  is_child = (length kids, omega (arith, ap length all, length-append kids (c ∷ rest)), ap (λ l. get_or l (length kids) c) all ∙ get_or_at kids c rest c (length kids) refl)

  has_parent : parent_of f c ≡ Some k
  has_parent = (holds.listed k c).0 is_child

  child_within : c < length f.names
  child_within = subst (λ x. x < length f.names) is_child.2 (holds.children_within k is_child.0 c is_child.1)

  still_root : parent_of g c ≡ None
  still_root = by (parent_of g c) refl
    where
      by : (o : Option ℕ) → parent_of g c ≡ o → parent_of g c ≡ None
      by None e = e
      by (Some q) e =
          let up : parent_of f c ≡ Some q = sub_parent f holds k kids (c ∷ rest) all g h c q e in
          let same : q ≡ k = (let s : Some q ≡ Some k = sym up ∙ has_parent in cc) in
          let there : Contains kids c = subst (λ l. Contains l c) (ap (children_of g) same ∙ h.here) ((h.holds.listed q c).1 e) in
          absurd (apart_in kids c rest (children_of f k) all (holds.once k) there)

  other_concept : c ≢ k
  other_concept same = holds.no_cycle k (parent (ap (parent_of f) (sym same) ∙ has_parent))

  not_above : ¬ IsAncestor g c k
  not_above up = holds.no_cycle c (further has_parent (IsAncestor-kept (sub_parent f holds k kids (c ∷ rest) all g h) up))

  is_linked : with_link k g c ≡ Ok (with_child g k c)
  is_linked =
      with_link-root k g c still_root false
      (or_from (c == k) (is_ancestor g c k) (ne_eqb c k other_concept) (false_from_ne_true (is_ancestor g c k) (λ e. not_above ((Decides-is_ancestor g c k).0 e))))

  child_row : HasRow f k (kids ++ c ∷ []) (with_child g k c)
  child_row =
      let names : g.names ≡ f.names = h.names in
      let count : length g.children ≡ length g.names = h.holds.children_counted in
      let n : length g.names ≡ length f.names = ap length names in
      let c_in = child_within in
      record {
        names = h.names;
        holds = IsForest-with_child g k c h.holds (omega arith) (omega arith) still_root other_concept not_above;
        done = λ q lt. children_of-with_child_other g k c q (λ same. omega arith) ∙ h.done q lt;
        here = children_of-with_child_same g k c (omega arith) ∙ ap (λ l. l ++ c ∷ []) h.here;
        later = λ q lt. children_of-with_child_other g k c q (λ same. omega arith) ∙ h.later q lt;
      }

  -- by its name
  child_named : (limit : ℕ) → add_child limit k g (get_or f.names c []) ≡ Ok (with_child g k c)
  child_named limit =
      let name = get_or f.names c [] in
      let known : number_of g name ≡ Some c = ap (position (bytes_eq name)) h.names ∙ own_position f.names c holds.names_apart child_within in
      let found = place_of-found g name c known in
      ap (λ made. and_then made (λ t. with_link k t (place_of g name))) (with_name-found limit g name c known)
      ∙ ap (with_link k g) found.0 ∙ is_linked

-- all children of a row
module _ (limit : ℕ) (f : Trees) (holds : IsForest f) (k : ℕ) (within : k < length f.names) where
  kids_more : (kids rest : List ℕ) (g : Trees) → children_of f k ≡ kids ++ rest → HasRow f k kids g
      → (next : Trees) × (add_children limit k g (map (λ c. get_or f.names c []) rest) ≡ Ok next) × HasRow f k (children_of f k) next
  kids_more kids [] g all h = (g, refl, subst (λ l. HasRow f k l g) (sym (all ∙ append-nil kids)) h)
  kids_more kids (c ∷ rest) g all h =
      let rest_of = kids_more (kids ++ c ∷ []) rest (with_child g k c) (all ∙ sym (append_assoc kids (c ∷ []) rest)) (child_row f holds k c kids rest all within g h) in (
        rest_of.0,
        ap (λ made. and_then made (λ t. add_children limit k t (map (λ c. get_or f.names c []) rest))) (child_named f holds k c kids rest all within g h limit) ∙ rest_of.1,
        rest_of.2,
      )

  -- a row of a concept with its children
  pub row_more : (g : Trees) → HasRow f k [] g
      → (next : Trees) × (add_row limit g (get_or f.names k [] ∷ map (λ c. get_or f.names c []) (children_of f k)) ≡ Ok next) × HasRow f k (children_of f k) next
  row_more g h =
      let name = get_or f.names k [] in
      let known : number_of g name ≡ Some k = ap (position (bytes_eq name)) h.names ∙ own_position f.names k holds.names_apart within in
      let found = place_of-found g name k known in
      let made = kids_more [] (children_of f k) g refl h in (
        made.0,
        ap (λ m. and_then m (λ t. add_children limit (place_of g name) t (map (λ c. get_or f.names c []) (children_of f k)))) (with_name-found limit g name k known)
            ∙ ap (λ n. add_children limit n g (map (λ c. get_or f.names c []) (children_of f k))) found.0 ∙ made.1,
        made.2,
      )

-- from one row to the next
pub rows_none : (f g : Trees) → HasNames f (length f.names) g → HasRow f 0 [] g
rows_none f g h = record {
  names = h.names ∙ take_all (length f.names) f.names (omega arith);
  holds = h.holds;
  done = λ q lt. absurd (omega arith);
  here = h.roots 0;
  later = λ q lt. h.roots q;
}

pub rows_next : (f : Trees) (k : ℕ) (g : Trees) → HasRow f k (children_of f k) g → HasRow f (k + 1) [] g
rows_next f k g h = record {
  names = h.names;
  holds = h.holds;
  done = λ q lt. elim (cases_eq q k) [
    | inl same ↦ ap (children_of g) same ∙ h.here ∙ ap (children_of f) (sym same)
    | inr other ↦ h.done q (omega arith)
  ];
  here = h.later (k + 1) (omega arith);
  later = λ q lt. h.later q (omega arith);
}

same_option : (a b : Option ℕ) → ((q : ℕ) → a ≡ Some q → b ≡ Some q) → ((q : ℕ) → b ≡ Some q → a ≡ Some q) → a ≡ b
same_option (Some x) b f g = sym (f x refl)
same_option None (Some y) f g = g y refl
same_option None None f g = refl

-- with all rows it is the forest again
pub rows_all : (f : Trees) → IsForest f → (g : Trees) → HasRow f (length f.names) [] g → g ≡ f
rows_all f holds g h =
    let names : g.names ≡ f.names = h.names in
    let n = ap length names in
    let count_g = h.holds.children_counted in
    let count_f = holds.children_counted in
    let up_g = h.holds.parents_counted in
    let up_f = holds.parents_counted in
    let children : g.children ≡ f.children = ext_get_or [] g.children f.children (omega arith) (λ i lt. h.done i (omega arith)) in
    let parents : g.parents ≡ f.parents = ext_get_or None g.parents f.parents (omega arith) (λ i lt. same_option (parent_of g i) (parent_of f i)
    (λ q e. (holds.listed q i).0 (subst (λ l. Contains (get_or l q []) i) children ((h.holds.listed q i).1 e)))
    (λ q e. (h.holds.listed q i).0 (subst (λ l. Contains (get_or l q []) i) (sym children) ((holds.listed q i).1 e)))) in
    same_trees g f names parents children
