-- Taking a row back: the last children of its parent become roots again, and then the new names go.
use Rattle.std.proofs.Common.{◌≡◌, ◌+◌, ◌-◌, ◌≤◌, ◌<◌, ℕ, suc, zero, List, [], ◌∷◌, ◌++◌, None, Some, length, set, get_or, take, All, refl, sym, ap, subst, ◌∙◌, arith}
use Rattle.std.proofs.lemmas.List.{set-set, set-get_or, set-append_left, length-set, length_push, take_all, take-append-le, take_at, get_or_push, get_or-set_same}
use Rattle.std.proofs.lemmas.List.Elements.{All-take}
use Rattle.taxon_tree.specs.Trees.{Trees, parent_of, children_of, IsForest}
use Rattle.taxon_tree.specs.Row.{with_root, with_child}
use Rattle.taxon_tree.specs.Undo.{Grown, last_child, without_last_child, first_concepts}
use Rattle.taxon_tree.specs.Undo.Grown.{same, root, child}
use Rattle.taxon_tree.proofs.ListLemmas.{same_trees}
use Rattle.taxon_tree.proofs.ForestLemmas.{children_of-with_root, children_of-with_child_same}

-- writing the default in a list with one default more
set-push_default : {X : Type 0} (d : X) (xs : List X) (i : ℕ) → set (xs ++ d ∷ []) i d ≡ set xs i d ++ d ∷ []
set-push_default d [] zero = refl
set-push_default d [] (suc i) = refl
set-push_default d (x ∷ xs) zero = refl
set-push_default d (x ∷ xs) (suc i) = ap (λ l. x ∷ l) (set-push_default d xs i)

-- how the trees that grew compare to those that they came from
record IsLarger (start : Trees) (parent : ℕ) (f : Trees) : Type 0 where
  parents_counted : length f.parents ≡ length f.names
  children_counted : length f.children ≡ length f.names
  longer : length start.names ≤ length f.names
  more : length (children_of start parent) ≤ length (children_of f parent)

larger : (start : Trees) (parent : ℕ) → IsForest start → parent < length start.names → {f : Trees} → Grown start parent f → IsLarger start parent f
larger start parent h within same =
    record { parents_counted = h.parents_counted; children_counted = h.children_counted; longer = omega arith; more = omega arith }
larger start parent h within (root {f} name g) =
    let was = larger start parent h within g in
    let count = length_push f.names name in
    record {
      parents_counted = length_push f.parents None ∙ ap (λ n. n + 1) was.parents_counted ∙ sym count;
      children_counted = length_push f.children [] ∙ ap (λ n. n + 1) was.children_counted ∙ sym count;
      longer = omega (arith, was.longer);
      more = subst (λ l. length (children_of start parent) ≤ length l) (sym (children_of-with_root f name parent)) was.more;
    }
larger start parent h within (child {f} c lt none g) =
    let was = larger start parent h within g in
    let in' : parent < length f.children = omega (arith, was.children_counted, was.longer) in
    record {
      parents_counted = length-set f.parents c (Some parent) ∙ was.parents_counted;
      children_counted = length-set f.children parent _ ∙ was.children_counted;
      longer = was.longer;
      more = subst (λ l. length (children_of start parent) ≤ length l) (sym (children_of-with_child_same f parent c in')) (omega (arith, was.more, length_push (children_of f parent) c));
    }

-- where the parent has its old children, the old names are all that is to be kept
pub first_concepts-Grown : (start : Trees) (parent : ℕ) → IsForest start → parent < length start.names → {f : Trees} → Grown start parent f
    → length (children_of f parent) ≡ length (children_of start parent) → first_concepts (length start.names) f ≡ start
first_concepts-Grown start parent h within same e =
    same_trees _ _ (take_all _ start.names (omega arith)) (take_all _ start.parents (omega (arith, h.parents_counted))) (take_all _ start.children (omega (arith, h.children_counted)))
first_concepts-Grown start parent h within (root {f} name g) e =
    let was = larger start parent h within g in
    same_trees _ _
    (take-append-le (length start.names) f.names (name ∷ []) was.longer)
    (take-append-le (length start.names) f.parents (None ∷ []) (omega (arith, was.longer, was.parents_counted)))
    (take-append-le (length start.names) f.children ([] ∷ []) (omega (arith, was.longer, was.children_counted)))
    ∙ first_concepts-Grown start parent h within g (sym (ap length (children_of-with_root f name parent)) ∙ e)
first_concepts-Grown start parent h within (child {f} c lt none g) e =
    let was = larger start parent h within g in
    let in' : parent < length f.children = omega (arith, was.children_counted, was.longer) in
    absurd (omega (arith, was.more, length_push (children_of f parent) c, ap length (children_of-with_child_same f parent c in'), e))

-- taking away the last child undoes a link
without_last_child-with_child : (f : Trees) (parent c : ℕ) → parent < length f.children → parent_of f c ≡ None → without_last_child (with_child f parent c) parent ≡ f
without_last_child-with_child f parent c in' none =
    let kids : children_of (with_child f parent c) parent ≡ children_of f parent ++ c ∷ [] = children_of-with_child_same f parent c in' in
    let count : length (children_of f parent ++ c ∷ []) - 1 ≡ length (children_of f parent) = omega (arith, length_push (children_of f parent) c) in
    let last : last_child (with_child f parent c) parent ≡ c =
    ap (λ l. get_or l (length l - 1) 0) kids ∙ get_or_push (children_of f parent) c 0 _ (sym count) in
    let rest : take (length (children_of (with_child f parent c) parent) - 1) (children_of (with_child f parent c) parent) ≡ children_of f parent =
    ap (λ l. take (length l - 1) l) kids ∙ take_at (children_of f parent) (c ∷ []) _ (sym count) in
    same_trees _ _
    refl
    (ap (λ i. set (set f.parents c (Some parent)) i None) last ∙ set-set f.parents c (Some parent) None ∙ ap (set f.parents c) (sym none) ∙ set-get_or f.parents c None)
    (ap (set (set f.children parent (children_of f parent ++ c ∷ [])) parent) rest ∙ set-set f.children parent _ _ ∙ set-get_or f.children parent [])

-- and leaves a new root where it is
without_last_child-with_root : (f : Trees) (name : List ℕ) (parent : ℕ) → parent < length f.children
    → without_last_child (with_root f name) parent ≡ with_root (without_last_child f parent) name
without_last_child-with_root f name parent in' =
    let kids : children_of (with_root f name) parent ≡ children_of f parent = children_of-with_root f name parent in
    same_trees _ _
    refl
    (ap (λ l. set (f.parents ++ None ∷ []) (get_or l (length l - 1) 0) None) kids ∙ set-push_default None f.parents (last_child f parent))
    (ap (λ l. set (f.children ++ [] ∷ []) parent (take (length l - 1) l)) kids ∙ set-append_left f.children ([] ∷ []) parent _ in')

-- with more children than at the start, one link less is still a way on from the start
pub Grown-without_last_child : (start : Trees) (parent : ℕ) → IsForest start → parent < length start.names → {f : Trees} → Grown start parent f
    → length (children_of start parent) < length (children_of f parent) → Grown start parent (without_last_child f parent)
Grown-without_last_child start parent h within same lt = absurd (omega arith)
Grown-without_last_child start parent h within (root {f} name g) lt =
    let was = larger start parent h within g in
    let in' : parent < length f.children = omega (arith, was.children_counted, was.longer) in
    subst (Grown start parent) (sym (without_last_child-with_root f name parent in'))
    (root name (Grown-without_last_child start parent h within g (subst (λ l. length (children_of start parent) < length l) (children_of-with_root f name parent) lt)))
Grown-without_last_child start parent h within (child {f} c c_in none g) lt =
    let was = larger start parent h within g in
    let in' : parent < length f.children = omega (arith, was.children_counted, was.longer) in
    subst (Grown start parent) (sym (without_last_child-with_child f parent c in' none)) g

-- no child is lost on the way
pub length-children_of-Grown : (start : Trees) (parent : ℕ) → IsForest start → parent < length start.names → {f : Trees} → Grown start parent f
    → length (children_of start parent) ≤ length (children_of f parent)
length-children_of-Grown start parent h within g = (larger start parent h within g).more

-- the children that are left
pub children_of-without_last_child : (f : Trees) (parent : ℕ) → parent < length f.children
    → children_of (without_last_child f parent) parent ≡ take (length (children_of f parent) - 1) (children_of f parent)
children_of-without_last_child f parent lt = get_or-set_same f.children parent _ [] lt

pub children_within-without_last_child : (f : Trees) (parent : ℕ) → parent < length f.children → All (λ c. c < length f.parents) (children_of f parent)
    → All (λ c. c < length (without_last_child f parent).parents) (children_of (without_last_child f parent) parent)
children_within-without_last_child f parent lt within =
    subst (All (λ c. c < length (set f.parents (last_child f parent) None))) (sym (children_of-without_last_child f parent lt))
    (All-take (λ c. c < length (set f.parents (last_child f parent) None)) _ (children_of f parent) (λ k d at. subst (λ m. get_or (children_of f parent) k d < m) (sym (length-set f.parents (last_child f parent) None)) (within k d at)))

-- and no concept
pub length-names-Grown : (start : Trees) (parent : ℕ) → IsForest start → parent < length start.names → {f : Trees} → Grown start parent f → length start.names ≤ length f.names
length-names-Grown start parent h within g = (larger start parent h within g).longer
