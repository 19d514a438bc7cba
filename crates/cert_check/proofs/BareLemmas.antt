-- An open tree that branches on no pair yet: a leaf at its root is judged as that of its subject's tree, and nothing comes after it.
use Rattle.std.proofs.Common.{◌≡◌, ℕ, ◌+◌, ◌≤◌, Bool, true, false, List, [], ◌∷◌, length, Option, Some, None, refl, sym, ap, ◌∙◌, subst, inl, inr, arith, true≢false, Result, Ok, Err, IfOk}
use Rattle.rcc5_core.specs.declared.Rel.{Rel}
use Rattle.lits_core.specs.Derivation.{State}
use Rattle.world_model.specs.Problem.{Problem}
use Rattle.cert_text.specs.declared.line.CertLine.{CertLine}
use Rattle.cert_text.specs.declared.line.CertLine.TheVariants.{Certificate, Claims, Proof, Branch, NoPoint, NoRelation, World, Holds, Fails, End, Quit, Done}
use Rattle.cert_rules.specs.Trees.{Branching, sets_of, is_branch, tree_fault, tree_next}
use Rattle.cert_rules.specs.Order.{onward}
use Rattle.cert_rules.specs.ClaimLists.{ClaimStand, Block, claim_role, ForNode, subject_problem, subject_tree, stray_kind, take_inside, with_block}
use Rattle.cert_rules.specs.Listings.{Going, Rejected, unless}
use Rattle.cert_rules.specs.declared.RejectKind.{RejectKind}
use Rattle.cert_rules.proofs.FromTheEnd.{found_from_the_end_law}
use Rattle.cert_tree.specs.Levels.{tree_over, bare_tree}
use Rattle.cert_tree.specs.Walks.{IsPath, node_of, at_of}
use Rattle.cert_check.specs.declared.open_tree.OpenTree.{OpenTree}
use Rattle.cert_check.specs.Checkers.{is_proof}
use Rattle.cert_check.specs.Claiming.{IsBlock, is_node}

-- the tree that is made anew is that of the subject
pub made_anew : (p : Problem) (block : OpenTree) (q : Problem) (from : List Rel) (tree : Branching) → IsBlock p block → q ≡ block.walk.tree.subject → from ≡ [] → tree ≡ tree_over q false from →
    tree ≡ subject_tree p block.subject
made_anew p block q from tree is problem start made =
    made ∙ ap (λ from. tree_over q false from) start
    ∙ ap (λ q. tree_over q false []) (problem ∙ elim is.tree [
      | inl whole ↦ ap (λ t. t.subject) whole
      | inr bare ↦ ap (λ t. t.subject) bare
    ])

-- and the root is a path in it
pub walk_anew : (p : Problem) (block : OpenTree) (tree : Branching) → IsBlock p block → tree ≡ subject_tree p block.subject → length block.walk.path ≡ 0 →
    IsPath (length tree.levels) tree.from block.walk.path block.walk.on_way
walk_anew p block tree is anew root =
    subst (λ from. IsPath (length tree.levels) from block.walk.path block.walk.on_way) (old ∙ sym (ap (λ t. t.from) anew))
    (record { short = omega (arith, root); shown = is.walk.shown; below = is.walk.below })
  where
    old : block.walk.tree.from ≡ []
    old = elim is.tree [
      | inl whole ↦ ap (λ t. t.from) whole
      | inr bare ↦ ap (λ t. t.from) bare
    ]

-- a tree whose root was expected, made anew with the pairs on which it branches
abbrev pub over_splits : OpenTree → OpenTree
over_splits block = record block { walk = record block.walk { tree = tree_over block.walk.tree.subject false [] } }

pub tree_anew : (p : Problem) (block new : OpenTree) → IsBlock p block → new ≡ over_splits block → new.walk.tree ≡ subject_tree p new.subject
tree_anew p block new is same =
    subst (λ (new : OpenTree). new.walk.tree ≡ subject_tree p new.subject) (sym same) (made_anew p block block.walk.tree.subject [] (over_splits block).walk.tree is refl refl refl)

pub block_anew : (p : Problem) (block new : OpenTree) → IsBlock p block → length block.walk.path ≡ 0 → new ≡ over_splits block → IsBlock p new
block_anew p block new is root same =
    let anew = tree_anew p block (over_splits block) is refl in
    subst (IsBlock p) (sym same) (record { walk = walk_anew p block (over_splits block).walk.tree is anew root; tree = inl anew })

-- what follows of what a call gives
pub if_ok : {V E : Type 0} (P Q : V → Type 0) (r : Result V E) → ((x : V) → P x → Q x) → IfOk r P → IfOk r Q
if_ok P Q (Ok x) more given = more x given
if_ok P Q (Err e) more given = tt

-- where the tree branches on no pair, its root alone was expected
at_root : (p : Problem) (block : OpenTree) → IsBlock p block → block.walk.tree ≡ bare_tree (subject_problem p block.subject) → block.walk.path ≡ []
at_root p block is bare = empty block.walk.path (let short = is.walk.short in let none = ap (λ t. length t.levels) bare in omega (arith, short, none))
  where
    empty : (path : List Rel) → length path ≤ 0 → path ≡ []
    empty [] short = refl
    empty (rel ∷ path) short = absurd (omega (arith, short))

-- what both trees have in common at the root is that of the subject's tree, whose branches are judged by itself
by_tree : {X : Type 0} (f : Branching → X) (p : Problem) (block : OpenTree) (branches : Bool) → IsBlock p block → (branches ≡ true → block.walk.tree ≡ subject_tree p block.subject) →
    (branches ≡ false → block.walk.path ≡ [] → f (subject_tree p block.subject) ≡ f (bare_tree (subject_problem p block.subject))) → f (subject_tree p block.subject) ≡ f block.walk.tree
by_tree f p block true is whole leaf = ap f (sym (whole refl))
by_tree f p block false is whole leaf = elim is.tree [
  | inl same ↦ ap f (sym same)
  | inr bare ↦ leaf refl (at_root p block is bare) ∙ ap f (sym bare)
]

-- for a leaf at the root no pair is looked at
leaf_fault : (q : Problem) (levels : List (ℕ × ℕ)) (proof : State) (expected : Bool) (line : CertLine) → claim_role line ≡ ForNode → is_branch line ≡ false →
    tree_fault (record { subject = q; levels = levels; from = [] }) proof (node_of expected []) line ≡ tree_fault (bare_tree q) proof (node_of expected []) line
leaf_fault q levels proof false line role leaf = refl
leaf_fault q [] proof true line role leaf = refl
leaf_fault q (pair ∷ levels) proof true (Branch depth last) role leaf = cc
leaf_fault q (pair ∷ levels) proof true (World depth last family) role leaf = cc
leaf_fault q (pair ∷ levels) proof true line role leaf = refl

-- a line about a node is judged as by the tree of the subject
pub right_fault : (p : Problem) (block : OpenTree) (proof : State) (line : CertLine) → IsBlock p block → claim_role line ≡ ForNode →
    (is_branch line ≡ true → block.walk.tree ≡ subject_tree p block.subject) →
    tree_fault (subject_tree p block.subject) proof (at_of block.walk) line ≡ tree_fault block.walk.tree proof (at_of block.walk) line
right_fault p block proof line is role whole =
    by_tree (λ t. tree_fault t proof (at_of block.walk) line) p block (is_branch line) is whole
    (λ leaf root.
    let at = ap (node_of block.walk.expected) root in
    let tree = subject_tree p block.subject in
    ap (λ at. tree_fault tree proof at line) at
    ∙ leaf_fault tree.subject tree.levels proof block.walk.expected line role leaf
    ∙ ap (λ at. tree_fault (bare_tree tree.subject) proof at line) (sym at))

-- a node that is right was expected
next_is : (tree : Branching) (proof : State) (expected : Bool) (path : List Rel) (line : CertLine) → tree_fault tree proof (node_of expected path) line ≡ None →
    tree_next tree (node_of expected path) line ≡ onward (sets_of tree) tree.from (is_branch line) path
next_is tree proof true path line right = refl
next_is tree proof false path line right = cc

-- and the same node comes next
pub right_next : (p : Problem) (block : OpenTree) (proof : State) (line : CertLine) → IsBlock p block → (is_branch line ≡ true → block.walk.tree ≡ subject_tree p block.subject) →
    tree_fault (subject_tree p block.subject) proof (at_of block.walk) line ≡ None →
    tree_next (subject_tree p block.subject) (at_of block.walk) line ≡ onward (sets_of block.walk.tree) block.walk.tree.from (is_branch line) block.walk.path
right_next p block proof line is whole right =
    next_is (subject_tree p block.subject) proof block.walk.expected block.walk.path line right
    ∙ by_tree (λ t. onward (sets_of t) t.from (is_branch line) block.walk.path) p block (is_branch line) is whole
    (λ leaf root.
    let sets = sets_of (subject_tree p block.subject) in
    ap (λ b. onward sets [] b block.walk.path) leaf ∙ ap (onward sets [] false) root ∙ found_from_the_end_law.root sets [])

-- what the rules make of a node, by its fault and by the node that comes next
pub node_rejected : (p : Problem) (n : ℕ) (s : ClaimStand) (block : Block) (line : CertLine) (kind : RejectKind) → claim_role line ≡ ForNode →
    tree_fault (subject_tree p block.subject) s.proof block.at line ≡ Some kind → take_inside p n s block line (claim_role line) ≡ Rejected (n + 1) kind
node_rejected p n s block line kind role fault =
    ap (take_inside p n s block line) role
    ∙ ap (λ fault. unless fault (n + 1) (Going (n + 1) (with_block s (record block { at = tree_next (subject_tree p block.subject) block.at line })))) fault

pub node_taken : (p : Problem) (n : ℕ) (s : ClaimStand) (block : Block) (line : CertLine) (at : Option (List Rel)) → claim_role line ≡ ForNode →
    tree_fault (subject_tree p block.subject) s.proof block.at line ≡ None → tree_next (subject_tree p block.subject) block.at line ≡ at →
    take_inside p n s block line (claim_role line) ≡ Going (n + 1) (with_block s (record block { at = at }))
node_taken p n s block line at role fault next =
    ap (take_inside p n s block line) role
    ∙ ap (λ fault. unless fault (n + 1) (Going (n + 1) (with_block s (record block { at = tree_next (subject_tree p block.subject) block.at line })))) fault
    ∙ ap (λ at. Going (n + 1) (with_block s (record block { at = at }))) next

-- a line within a tree that is none of the derivation, of the tree, of its end or of its being left is not taken
pub stray_rejected : (p : Problem) (s : ClaimStand) (block : Block) (line : CertLine) → is_proof line ≡ false → is_node line ≡ false → (line ≡ Quit → ⊥) → (line ≡ End None → ⊥) → (n : ℕ) →
    take_inside p n s block line (claim_role line) ≡ Rejected (n + 1) (stray_kind block.at)
stray_rejected p s block (Certificate switches from) other leaf left ended n = refl
stray_rejected p s block (Claims switches) other leaf left ended n = refl
stray_rejected p s block (Proof line) other leaf left ended n = absurd (true≢false other)
stray_rejected p s block (Branch depth last) other leaf left ended n = absurd (true≢false leaf)
stray_rejected p s block (NoPoint depth last need clause) other leaf left ended n = absurd (true≢false leaf)
stray_rejected p s block (NoRelation depth last pair) other leaf left ended n = absurd (true≢false leaf)
stray_rejected p s block (World depth last family) other leaf left ended n = refl
stray_rejected p s block (Holds subject family) other leaf left ended n = refl
stray_rejected p s block (Fails subject) other leaf left ended n = refl
stray_rejected p s block (End None) other leaf left ended n = absurd (ended refl)
stray_rejected p s block (End (Some to)) other leaf left ended n = refl
stray_rejected p s block Quit other leaf left ended n = absurd (left refl)
stray_rejected p s block Done other leaf left ended n = refl
