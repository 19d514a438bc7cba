-- What holds of the concepts of all forests laid out one after another.
use Rattle.std.proofs.Common.{◌≡◌, ◌≢◌, ◌↔◌, ℕ, zero, suc, ◌+◌, ◌-◌, ◌<◌, ◌≤◌, List, [], ◌∷◌, ◌++◌, map, length, take, get_or, replicate, Option, None, Some, inl, inr, refl, sym, ap, ◌∙◌, subst, arith}
use Rattle.std.specs.Prelude.{flat_map, All, AllPairs, Contains}
use Rattle.std.specs.Option.{option_map}
use Rattle.std.proofs.lemmas.Bool.{cases_lt}
use Rattle.std.proofs.lemmas.List.{get_or_past, get_or_default, get_or-map, length-replicate, get_or-replicate, get_or_append_left, get_or-append-add, length-map}
use Rattle.std.proofs.lemmas.List.Sums.{sum_by-cons, sum_by_more_le}
use Rattle.taxon_tree.specs.Trees.{Trees, no_trees, IsForest, IsAncestor, parent, further, parent_of as forest_parent, children_of as forest_children}
use Rattle.world_model.specs.Problem.{Problem, concept_count, owner_of, parent_of, children_of}
use Rattle.constraint_set.specs.Build.{size_of, owners_from, parents_from, children_from}
use Rattle.constraint_set.specs.Readers.{name_of}
use Rattle.constraint_set.specs.Facts.{trees_of}
use Rattle.constraint_set.proofs.Gathering.{all_of, length-owners_from, length-parents, length-children, owners_ascending}

-- a forest by its place, and how many concepts come before it
abbrev pub forest_at : List Trees → ℕ → Trees
forest_at fs k = get_or fs k no_trees

abbrev pub base : List Trees → ℕ → ℕ
base fs k = all_of (take k fs)

pub first_at : {X : Type 0} (xs ys : List X) (n i : ℕ) (d : X) → length xs ≡ n → i < n → get_or (xs ++ ys) (0 + i) d ≡ get_or xs i d
first_at xs ys n i d len h = let e : 0 + i ≡ i = omega arith in ap (λ j. get_or (xs ++ ys) j d) e ∙ get_or_append_left xs ys d i (omega (arith, len))

pub later_at : {X : Type 0} (xs ys : List X) (n m i : ℕ) (d : X) → length xs ≡ n → get_or (xs ++ ys) (n + m + i) d ≡ get_or ys (m + i) d
later_at xs ys n m i d len =
    let e : n + m + i ≡ length xs + (m + i) = omega (arith, len) in
    ap (λ j. get_or (xs ++ ys) j d) e ∙ get_or-append-add xs ys (m + i) d

pub base_suc : (f : Trees) (fs : List Trees) (k : ℕ) → base (f ∷ fs) (suc k) ≡ size_of f + base fs k
base_suc f fs k = sum_by-cons size_of f (take k fs)

rest_hold : (f : Trees) (fs : List Trees) → All IsForest (f ∷ fs) → All IsForest fs
rest_hold f fs h k d within = h (suc k) d (omega arith)

owner_at : (w : ℕ) (fs : List Trees) (k i : ℕ) → k < length fs → i < size_of (forest_at fs k) → get_or (owners_from w fs) (base fs k + i) 0 ≡ w + k
owner_at w [] k i h within = absurd (omega arith)
owner_at w (f ∷ fs) zero i h within =
    let n = size_of f in
    let e : w ≡ w + 0 = omega arith in
    first_at (replicate n w) (owners_from (w + 1) fs) n i 0 (length-replicate n w) within ∙ get_or-replicate n i w 0 within ∙ e
owner_at w (f ∷ fs) (suc k) i h within =
    let n = size_of f in
    let e : w + 1 + k ≡ w + suc k = omega arith in
    ap (λ b. get_or (owners_from w (f ∷ fs)) (b + i) 0) (base_suc f fs k)
    ∙ later_at (replicate n w) (owners_from (w + 1) fs) n (base fs k) i 0 (length-replicate n w)
    ∙ owner_at (w + 1) fs k i (omega arith) within ∙ e

pub name_at : (fs : List Trees) (k i : ℕ) → k < length fs → i < size_of (forest_at fs k) → get_or (flat_map (λ (f : Trees). f.names) fs) (base fs k + i) [] ≡ get_or (forest_at fs k).names i []
name_at [] k i h within = absurd (omega arith)
name_at (f ∷ fs) zero i h within = first_at f.names (flat_map (λ (f : Trees). f.names) fs) (size_of f) i [] refl within
name_at (f ∷ fs) (suc k) i h within =
    ap (λ b. get_or (f.names ++ flat_map (λ (f : Trees). f.names) fs) (b + i) []) (base_suc f fs k)
    ∙ later_at f.names (flat_map (λ (f : Trees). f.names) fs) (size_of f) (base fs k) i [] refl
    ∙ name_at fs k i (omega arith) within

-- numbers moved up by so many
abbrev up_one : ℕ → Option ℕ → Option ℕ
up_one b = option_map (λ c. b + c)

abbrev pub up_all : ℕ → List ℕ → List ℕ
up_all b = map (λ c. b + c)

parent_at : (b : ℕ) (fs : List Trees) (k i : ℕ) → All IsForest fs → k < length fs → i < size_of (forest_at fs k) →
    get_or (parents_from b fs) (base fs k + i) None ≡ up_one (b + base fs k) (forest_parent (forest_at fs k) i)
parent_at b [] k i hold h within = absurd (omega arith)
parent_at b (f ∷ fs) zero i hold h within =
    let counted : length f.parents ≡ size_of f = (hold 0 f (omega arith)).parents_counted in
    let e : b ≡ b + 0 = omega arith in
    first_at (map (up_one b) f.parents) (parents_from (b + size_of f) fs) (size_of f) i None (length-map {B = Option ℕ} f.parents (up_one b) ∙ counted) within
    ∙ get_or-map (up_one b) f.parents i None None (omega (arith, counted))
    ∙ ap (λ n. up_one n (forest_parent f i)) e
parent_at b (f ∷ fs) (suc k) i hold h within =
    let counted : length f.parents ≡ size_of f = (hold 0 f (omega arith)).parents_counted in
    let e : b + size_of f + base fs k ≡ b + base (f ∷ fs) (suc k) = omega (arith, base_suc f fs k) in
    ap (λ m. get_or (parents_from b (f ∷ fs)) (m + i) None) (base_suc f fs k)
    ∙ later_at (map (up_one b) f.parents) (parents_from (b + size_of f) fs) (size_of f) (base fs k) i None (length-map {B = Option ℕ} f.parents (up_one b) ∙ counted)
    ∙ parent_at (b + size_of f) fs k i (rest_hold f fs hold) (omega arith) within
    ∙ ap (λ n. up_one n (forest_parent (forest_at fs k) i)) e

children_at : (b : ℕ) (fs : List Trees) (k i : ℕ) → All IsForest fs → k < length fs → i < size_of (forest_at fs k) →
    get_or (children_from b fs) (base fs k + i) [] ≡ up_all (b + base fs k) (forest_children (forest_at fs k) i)
children_at b [] k i hold h within = absurd (omega arith)
children_at b (f ∷ fs) zero i hold h within =
    let counted : length f.children ≡ size_of f = (hold 0 f (omega arith)).children_counted in
    let e : b ≡ b + 0 = omega arith in
    first_at (map (up_all b) f.children) (children_from (b + size_of f) fs) (size_of f) i [] (length-map {B = List ℕ} f.children (up_all b) ∙ counted) within
    ∙ get_or-map (up_all b) f.children i [] [] (omega (arith, counted))
    ∙ ap (λ n. up_all n (forest_children f i)) e
children_at b (f ∷ fs) (suc k) i hold h within =
    let counted : length f.children ≡ size_of f = (hold 0 f (omega arith)).children_counted in
    let e : b + size_of f + base fs k ≡ b + base (f ∷ fs) (suc k) = omega (arith, base_suc f fs k) in
    ap (λ m. get_or (children_from b (f ∷ fs)) (m + i) []) (base_suc f fs k)
    ∙ later_at (map (up_all b) f.children) (children_from (b + size_of f) fs) (size_of f) (base fs k) i [] (length-map {B = List ℕ} f.children (up_all b) ∙ counted)
    ∙ children_at (b + size_of f) fs k i (rest_hold f fs hold) (omega arith) within
    ∙ ap (λ n. up_all n (forest_children (forest_at fs k) i)) e

-- the forest of a concept, and its number there
pub record Placed (fs : List Trees) (c : ℕ) : Type 0 where
  pub which : ℕ
  pub local : ℕ
  pub in_forests : which < length fs
  pub in_forest : local < size_of (forest_at fs which)
  pub is : c ≡ base fs which + local

pub placed : (fs : List Trees) (c : ℕ) → c < all_of fs → Placed fs c
placed [] c h = absurd (omega arith)
placed (f ∷ fs) c h = elim (cases_lt c (size_of f)) [
  | inl first ↦ record { which = 0; local = c; in_forests = omega arith; in_forest = first; is = omega arith }
  | inr later ↦
      let rest : Placed fs (c - size_of f) = placed fs (c - size_of f) (omega (arith, sum_by-cons size_of f fs)) in
      record { which = suc rest.which; local = rest.local; in_forests = omega (arith, rest.in_forests); in_forest = rest.in_forest; is = omega (arith, rest.is, base_suc f fs rest.which) }
]

-- a problem has the concepts of these forests
pub record IsLaid (p : Problem) (fs : List Trees) : Type 0 where
  pub forests : All IsForest fs
  pub names : p.names ≡ flat_map (λ (f : Trees). f.names) fs
  pub owners : p.owners ≡ owners_from 0 fs
  pub parents : p.parents ≡ parents_from 0 fs
  pub children : p.children ≡ children_from 0 fs

counted : (p : Problem) (fs : List Trees) → IsLaid p fs → concept_count p ≡ all_of fs
counted p fs s = ap length s.owners ∙ length-owners_from 0 fs

holds_at : (p : Problem) (fs : List Trees) → IsLaid p fs → (k : ℕ) → k < length fs → IsForest (forest_at fs k)
holds_at p fs s k h = s.forests k no_trees h

-- what a problem has at a concept of a forest
owner_is : (p : Problem) (fs : List Trees) → IsLaid p fs → (k i : ℕ) → k < length fs → i < size_of (forest_at fs k) → owner_of p (base fs k + i) ≡ k
owner_is p fs s k i h within = let e : 0 + k ≡ k = omega arith in ap (λ l. get_or l (base fs k + i) 0) s.owners ∙ owner_at 0 fs k i h within ∙ e

name_is : (p : Problem) (fs : List Trees) → IsLaid p fs → (k i : ℕ) → k < length fs → i < size_of (forest_at fs k) → name_of p (base fs k + i) ≡ get_or (forest_at fs k).names i []
name_is p fs s k i h within = ap (λ l. get_or l (base fs k + i) []) s.names ∙ name_at fs k i h within

parent_is : (p : Problem) (fs : List Trees) → IsLaid p fs → (k i : ℕ) → k < length fs → i < size_of (forest_at fs k) → parent_of p (base fs k + i) ≡ up_one (base fs k) (forest_parent (forest_at fs k) i)
parent_is p fs s k i h within =
    let e : 0 + base fs k ≡ base fs k = omega arith in
    ap (λ l. get_or l (base fs k + i) None) s.parents ∙ parent_at 0 fs k i s.forests h within ∙ ap (λ n. up_one n (forest_parent (forest_at fs k) i)) e

children_are : (p : Problem) (fs : List Trees) → IsLaid p fs → (k i : ℕ) → k < length fs → i < size_of (forest_at fs k) → children_of p (base fs k + i) ≡ up_all (base fs k) (forest_children (forest_at fs k) i)
children_are p fs s k i h within =
    let e : 0 + base fs k ≡ base fs k = omega arith in
    ap (λ l. get_or l (base fs k + i) []) s.children ∙ children_at 0 fs k i s.forests h within ∙ ap (λ n. up_all n (forest_children (forest_at fs k) i)) e

-- a concept of a forest is one of the problem
room : (p : Problem) (fs : List Trees) → IsLaid p fs → (k i : ℕ) → k < length fs → i < size_of (forest_at fs k) → base fs k + i < concept_count p
room p fs s k i h within = omega (arith, counted p fs s, sum_by_more_le size_of fs k no_trees h)

placed_in : (p : Problem) (fs : List Trees) → IsLaid p fs → (c : ℕ) → c < concept_count p → Placed fs c
placed_in p fs s c h = placed fs c (omega (arith, counted p fs s))

-- a concept has one place
one_which : (p : Problem) (fs : List Trees) → IsLaid p fs → (j k a b : ℕ) → j < length fs → a < size_of (forest_at fs j) → k < length fs → b < size_of (forest_at fs k) → base fs j + a ≡ base fs k + b → j ≡ k
one_which p fs s j k a b hj ha hk hb e = sym (owner_is p fs s j a hj ha) ∙ ap (owner_of p) e ∙ owner_is p fs s k b hk hb

pub owners_ascend : (p : Problem) (fs : List Trees) → IsLaid p fs → (c d : ℕ) → c ≤ d → d < concept_count p → owner_of p c ≤ owner_of p d
owners_ascend p fs s c d le within =
    subst (λ l. get_or l c 0 ≤ get_or l d 0) (sym s.owners) (owners_ascending 0 fs c d le (omega (arith, ap length s.owners)))

pub names_apart : (p : Problem) (fs : List Trees) → IsLaid p fs → (c d : ℕ) → c < d → d < concept_count p → owner_of p c ≡ owner_of p d → name_of p c ≢ name_of p d
names_apart p fs s c d lt within one same =
    let x : Placed fs c = placed_in p fs s c (omega arith) in
    let y : Placed fs d = placed_in p fs s d within in
    let k : x.which ≡ y.which = sym (owner_is p fs s x.which x.local x.in_forests x.in_forest) ∙ ap (owner_of p) (sym x.is) ∙ one ∙ ap (owner_of p) y.is ∙ owner_is p fs s y.which y.local y.in_forests y.in_forest in
    let bases : base fs x.which ≡ base fs y.which = ap (base fs) k in
    let order : x.local < y.local = omega (arith, x.is, y.is, bases) in
    let f = forest_at fs y.which in
    let name_c : name_of p c ≡ get_or f.names x.local [] = ap (name_of p) x.is ∙ name_is p fs s x.which x.local x.in_forests x.in_forest ∙ ap (λ w. get_or (forest_at fs w).names x.local []) k in
    let name_d : name_of p d ≡ get_or f.names y.local [] = ap (name_of p) y.is ∙ name_is p fs s y.which y.local y.in_forests y.in_forest in
    (holds_at p fs s y.which y.in_forests).names_apart x.local y.local [] order y.in_forest (sym name_c ∙ same ∙ name_d)

-- a link up, in the forest where it is
record Link (fs : List Trees) (c q : ℕ) : Type 0 where
  which : ℕ
  below : ℕ
  above : ℕ
  in_forests : which < length fs
  below_in : below < size_of (forest_at fs which)
  above_in : above < size_of (forest_at fs which)
  below_is : c ≡ base fs which + below
  above_is : q ≡ base fs which + above
  linked : forest_parent (forest_at fs which) below ≡ Some above

up_some : (b : ℕ) (o : Option ℕ) (q : ℕ) → up_one b o ≡ Some q → (r : ℕ) × (o ≡ Some r) × (q ≡ b + r)
up_some b None q h = absurd (cc)
up_some b (Some r) q h = (r, refl, let e : b + r ≡ q = cc in sym e)

link : (p : Problem) (fs : List Trees) → IsLaid p fs → (c q : ℕ) → parent_of p c ≡ Some q → Link fs c q
link p fs s c q h = elim (cases_lt c (concept_count p)) [
  | inl within ↦
      let x : Placed fs c = placed_in p fs s c within in
      let r = up_some (base fs x.which) (forest_parent (forest_at fs x.which) x.local) q (sym (parent_is p fs s x.which x.local x.in_forests x.in_forest) ∙ ap (parent_of p) (sym x.is) ∙ h) in
      record {
        which = x.which;
        below = x.local;
        above = r.0;
        in_forests = x.in_forests;
        below_in = x.in_forest;
        above_in = (holds_at p fs s x.which x.in_forests).parents_within x.local r.0 r.1;
        below_is = x.is;
        above_is = r.2;
        linked = r.1;
      }
  | inr past ↦
      let none : get_or p.parents c None ≡ None = get_or_past p.parents c None (omega (arith, counted p fs s, ap length s.parents, length-parents 0 fs s.forests)) in
      absurd (let bad : None ≡ Some q = sym none ∙ h in cc)
]

pub parents_within : (p : Problem) (fs : List Trees) → IsLaid p fs → (c q : ℕ) → parent_of p c ≡ Some q → (q < concept_count p) × (owner_of p q ≡ owner_of p c)
parents_within p fs s c q h =
    let l : Link fs c q = link p fs s c q h in (
      subst (λ n. n < concept_count p) (sym l.above_is) (room p fs s l.which l.above l.in_forests l.above_in),
      ap (owner_of p) l.above_is ∙ owner_is p fs s l.which l.above l.in_forests l.above_in
          ∙ sym (owner_is p fs s l.which l.below l.in_forests l.below_in) ∙ ap (owner_of p) (sym l.below_is),
    )

-- members of a list that was moved up
moved_in : (b : ℕ) (xs : List ℕ) (x : ℕ) → Contains xs x → Contains (up_all b xs) (b + x)
moved_in b xs x h = (
  h.0,
  omega (arith, h.1, length-map {B = ℕ} xs (λ c. b + c)),
  get_or-map (λ c. b + c) xs h.0 x (b + x) h.1 ∙ ap (λ c. b + c) h.2,
)

moved_from : (b : ℕ) (xs : List ℕ) (y : ℕ) → Contains (up_all b xs) y → (x : ℕ) × (y ≡ b + x) × Contains xs x
moved_from b xs y h =
    let within : h.0 < length xs = omega (arith, h.1, length-map {B = ℕ} xs (λ c. b + c)) in
    (get_or xs h.0 0, sym h.2 ∙ get_or-map (λ c. b + c) xs h.0 0 y within, (h.0, within, get_or_default xs h.0 (get_or xs h.0 0) 0 within))

pub listed : (p : Problem) (fs : List Trees) → IsLaid p fs → (q c : ℕ) → Contains (children_of p q) c ↔ (parent_of p c ≡ Some q)
listed p fs s q c = (down, back)
  where
    down : Contains (children_of p q) c → parent_of p c ≡ Some q
    down h = elim (cases_lt q (concept_count p)) [
      | inl within ↦
          let x : Placed fs q = placed_in p fs s q within in
          let k = x.which in
          let f = forest_at fs k in
          let holds : IsForest f = holds_at p fs s k x.in_forests in
          let lists : children_of p q ≡ up_all (base fs k) (forest_children f x.local) = ap (children_of p) x.is ∙ children_are p fs s k x.local x.in_forests x.in_forest in
          let m = moved_from (base fs k) (forest_children f x.local) c (subst (λ l. Contains l c) lists h) in
          let parent : forest_parent f m.0 ≡ Some x.local = (holds.listed x.local m.0).0 m.2 in
          let small : m.0 < size_of f = subst (λ n. n < size_of f) (m.2.2) (holds.children_within x.local m.2.0 m.0 m.2.1) in
          ap (parent_of p) m.1 ∙ parent_is p fs s k m.0 x.in_forests small ∙ ap (up_one (base fs k)) parent ∙ ap (λ n. Some n) (sym x.is)
      | inr past ↦
          let none : children_of p q ≡ [] = get_or_past p.children q [] (omega (arith, counted p fs s, ap length s.children, length-children 0 fs s.forests)) in
          absurd (omega (arith, h.1, ap length none))
    ]

    back : parent_of p c ≡ Some q → Contains (children_of p q) c
    back h =
        let l : Link fs c q = link p fs s c q h in
        let f = forest_at fs l.which in
        let lists : children_of p q ≡ up_all (base fs l.which) (forest_children f l.above) = ap (children_of p) l.above_is ∙ children_are p fs s l.which l.above l.in_forests l.above_in in
        let member : Contains (forest_children f l.above) l.below = ((holds_at p fs s l.which l.in_forests).listed l.above l.below).1 l.linked in
        subst (λ l. Contains l c) (sym lists) (subst (Contains (up_all (base fs l.which) (forest_children f l.above))) (sym l.below_is) (moved_in (base fs l.which) (forest_children f l.above) l.below member))

pub once : (p : Problem) (fs : List Trees) → IsLaid p fs → (q : ℕ) → AllPairs (λ c d. c ≢ d) (children_of p q)
once p fs s q i j d order within same = elim (cases_lt q (concept_count p)) [
  | inl in_range ↦
      let x : Placed fs q = placed_in p fs s q in_range in
      let k = x.which in
      let xs = forest_children (forest_at fs k) x.local in
      let lists : children_of p q ≡ up_all (base fs k) xs = ap (children_of p) x.is ∙ children_are p fs s k x.local x.in_forests x.in_forest in
      let many : length (children_of p q) ≡ length xs = ap length lists ∙ length-map {B = ℕ} xs (λ c. base fs k + c) in
      let at_i : get_or (children_of p q) i d ≡ base fs k + get_or xs i 0 = ap (λ l. get_or l i d) lists ∙ get_or-map (λ c. base fs k + c) xs i 0 d (omega (arith, many)) in
      let at_j : get_or (children_of p q) j d ≡ base fs k + get_or xs j 0 = ap (λ l. get_or l j d) lists ∙ get_or-map (λ c. base fs k + c) xs j 0 d (omega (arith, many)) in
      (holds_at p fs s k x.in_forests).once x.local i j 0 order (omega (arith, many)) (let e : base fs k + get_or xs i 0 ≡ base fs k + get_or xs j 0 = sym at_i ∙ same ∙ at_j in omega (arith, e))
  | inr past ↦
      let none : children_of p q ≡ [] = get_or_past p.children q [] (omega (arith, counted p fs s, ap length s.children, length-children 0 fs s.forests)) in
      absurd (omega (arith, within, ap length none))
]

-- an ancestor is one in the forest where both are
record Above (fs : List Trees) (u l : ℕ) : Type 0 where
  which : ℕ
  upper : ℕ
  lower : ℕ
  in_forests : which < length fs
  upper_in : upper < size_of (forest_at fs which)
  lower_in : lower < size_of (forest_at fs which)
  upper_is : u ≡ base fs which + upper
  lower_is : l ≡ base fs which + lower
  is_above : IsAncestor (forest_at fs which) upper lower

above : (p : Problem) (fs : List Trees) → IsLaid p fs → (u l : ℕ) → IsAncestor (trees_of p) u l → Above fs u l
above p fs s u _ (parent {lower} h) =
    let k : Link fs lower u = link p fs s lower u h in
    record { which = k.which; upper = k.above; lower = k.below; in_forests = k.in_forests; upper_in = k.above_in; lower_in = k.below_in; upper_is = k.above_is; lower_is = k.below_is; is_above = parent k.linked }
above p fs s u _ (further {lower} {middle} h up) =
    let k : Link fs lower middle = link p fs s lower middle h in
    let a : Above fs u middle = above p fs s u middle up in
    let same : a.which ≡ k.which = one_which p fs s a.which k.which a.lower k.above a.in_forests a.lower_in k.in_forests k.above_in (sym a.lower_is ∙ k.above_is) in
    let meet : a.lower ≡ k.above = omega (arith, a.lower_is, k.above_is, ap (base fs) same) in
    let linked : forest_parent (forest_at fs a.which) k.below ≡ Some a.lower = ap (λ w. forest_parent (forest_at fs w) k.below) same ∙ k.linked ∙ ap (λ n. Some n) (sym meet) in
    record {
      which = a.which;
      upper = a.upper;
      lower = k.below;
      in_forests = a.in_forests;
      upper_in = a.upper_in;
      lower_in = subst (λ w. k.below < size_of (forest_at fs w)) (sym same) k.below_in;
      upper_is = a.upper_is;
      lower_is = k.below_is ∙ ap (λ w. base fs w + k.below) (sym same);
      is_above = further linked a.is_above;
    }

pub no_cycle : (p : Problem) (fs : List Trees) → IsLaid p fs → (c : ℕ) → ¬ IsAncestor (trees_of p) c c
no_cycle p fs s c up =
    let a : Above fs c c = above p fs s c c up in
    let same : a.upper ≡ a.lower = omega (arith, a.upper_is, a.lower_is) in
    (holds_at p fs s a.which a.in_forests).no_cycle a.lower (subst (λ n. IsAncestor (forest_at fs a.which) n a.lower) same a.is_above)
