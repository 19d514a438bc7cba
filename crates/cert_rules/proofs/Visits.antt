-- The lines of the tree of an accepted listing stand at exactly the shown nodes below its end.
use Rattle.std.proofs.Common.{◌≡◌, ℕ, ◌+◌, ◌<◌, ◌≤◌, true, false, inl, inr, List, [], ◌∷◌, ◌++◌, length, Option, Some, None, refl, sym, ◌∙◌, subst, arith, append_assoc, append-nil}
use Rattle.std.specs.Prelude.{IfSome, ◌==◌}
use Rattle.std.proofs.lemmas.Bool.{true≢false, eq-eqb}
use Rattle.rcc5_core.specs.declared.Rel.{Rel}
use Rattle.lits_core.specs.Derivation.{State}
use Rattle.world_model.specs.Problem.{Problem, pair_count}
use Rattle.world_model.specs.Alive.{problem_at, IsAlive}
use Rattle.world_model.specs.Listing.{is_below}
use Rattle.world_model.specs.Node.{IsNode}
use Rattle.world_model.proofs.Members.{none_in}
use Rattle.world_model.proofs.OrderLists.{IsExactly, Between, between_parts}
use Rattle.cert_text.specs.declared.line.CertLine.{CertLine}
use Rattle.cert_text.specs.declared.line.CertLine.TheVariants.{Branch, NoPoint, NoRelation, World}
use Rattle.cert_rules.specs.declared.RejectKind.{RejectKind}
use Rattle.cert_rules.specs.Trees.{names, is_branch, node_fault, tree_fault, end_fault}
use Rattle.cert_rules.specs.Listings.{Status, Going, Ended, Rejected, unless, proof_fault, Stand, Listed, Role, ForProof, ForEnd, ForTree, role_of, after_node, take_by, step, steps, listing_tree, listing_next, start}
use Rattle.cert_rules.specs.ShownNodes.{IsShownNode, IsNextNode, Branches, node_by, line_node, visited, IsBranchAlive, AllBranchesAlive}
use Rattle.cert_rules.proofs.Nexts.{below_nothing}
use Rattle.cert_rules.proofs.Exact.{one_between}
use Rattle.cert_rules.proofs.Sound.{IsSoundStand, leaf_is_dead, table_length, tree_sound, proof_sound, ends_there}
use Rattle.cert_rules.proofs.Refuting.{tree_parts, branch_is_short, world_is_its_table}
use Rattle.world_model.proofs.Nodes.{node_within}
use Rattle.cert_rules.proofs.NextNodes.{covers, next_is_next}

-- what is so where a listing stands: the expected node is a shown node, and those before it were seen
pub record IsSeen (p : Problem) (from : List Rel) (s : Stand) (seen : List (List Rel)) : Type 0 where
  pub sound : IsSoundStand (listing_tree p from) s
  pub node : (m : List Rel) → s.at ≡ Some m → IsShownNode p from m
  pub exact : IsExactly (Between (IsShownNode p from) [] s.at) seen

abbrev pub IsSeenStatus : Problem → List Rel → Status Stand Listed → List (List Rel) → Type 0
IsSeenStatus p from (Going n s) seen = IsSeen p from s seen
IsSeenStatus p from (Ended listed) seen = IsExactly (Between (IsShownNode p from) [] listed.to) seen
IsSeenStatus p from (Rejected number kind) seen = Unit {0}

unless_seen : (p : Problem) (from : List Rel) (fault : Option RejectKind) (number : ℕ) (next : Status Stand Listed) (seen : List (List Rel)) →
    (fault ≡ None → IsSeenStatus p from next seen) → IsSeenStatus p from (unless fault number next) seen
unless_seen p from None number next seen is = is refl
unless_seen p from (Some kind) number next seen is = tt

-- a line's node branches just where the line says so
rightly : (p : Problem) (from m : List Rel) (proof : State) (worlds : List (List Rel)) → IsSoundStand (listing_tree p from) (record { proof = proof; at = Some m; worlds = worlds }) → IsNode p m →
    (line : CertLine) → names m line ≡ true → node_fault (listing_tree p from) proof m line ≡ None → (is_branch line ≡ true → IsAlive (problem_at p m)) → Branches p m (is_branch line)
rightly p from m proof worlds s node (Branch depth last) named none alive =
    (alive refl, short (node_within p m node) (branch_is_short (listing_tree p from) proof m (Branch depth last) none refl))
  where
    short : length m ≤ pair_count p → (length m == pair_count p) ≡ false → length m < pair_count p
    short within other = apart within (λ e. true≢false (sym (eq-eqb (length m) (pair_count p) e) ∙ other))
      where
        apart : {a b : ℕ} → a ≤ b → (a ≡ b → ⊥) → a < b
        apart h k = omega (arith, k)
rightly p from m proof worlds s node (NoPoint depth last need clause) named none alive =
    inl (leaf_is_dead (listing_tree p from) proof m s.tree_is s.follow (NoPoint depth last need clause) refl none)
rightly p from m proof worlds s node (NoRelation depth last pair) named none alive =
    inl (leaf_is_dead (listing_tree p from) proof m s.tree_is s.follow (NoRelation depth last pair) refl none)
rightly p from m proof worlds s node (World depth last family) named none alive =
    let full = table_length (listing_tree p from) m (world_is_its_table (listing_tree p from) proof m (World depth last family) none depth last family refl) in
    inr (omega arith)
rightly p from m proof worlds s node line named none alive = absurd (true≢false (sym named))

-- the next node is a shown node that comes after
next_shown_node : (p : Problem) (from m : List Rel) (next : Option (List Rel)) → IsNextNode p from m next → (n : List Rel) → next ≡ Some n → IsShownNode p from n
next_shown_node p from m None is n e = cc
next_shown_node p from m (Some k) is n e = let same : k ≡ n = cc in subst (IsShownNode p from) same is.node

next_node_after : (p : Problem) (from m : List Rel) (next : Option (List Rel)) → IsNextNode p from m next → (n : List Rel) → next ≡ Some n → is_below m n ≡ true
next_node_after p from m None is n e = cc
next_node_after p from m (Some k) is n e = let same : k ≡ n = cc in subst (λ n. is_below m n ≡ true) same is.after

pub not_below_empty : (t : List Rel) → is_below t [] ≡ false
not_below_empty [] = refl
not_below_empty (r ∷ t) = refl

-- a line of the tree
node_seen : (p : Problem) (from : List Rel) (proof : State) (at : Option (List Rel)) (worlds seen : List (List Rel)) → IsSeen p from (record { proof = proof; at = at; worlds = worlds }) seen →
    (line : CertLine) → tree_fault (listing_tree p from) proof at line ≡ None → (is_branch line ≡ true → IfSome at (λ m. IsAlive (problem_at p m))) →
    IsSeen p from (after_node (listing_tree p from) (record { proof = proof; at = at; worlds = worlds }) line) (seen ++ node_by ForTree at)
node_seen p from proof None worlds seen is line none alive = cc
node_seen p from proof (Some m) worlds seen is line none alive =
    let parts = tree_parts (listing_tree p from) proof m line none in
    let shown = is.node m refl in
    let may = rightly p from m proof worlds is.sound shown.0 line parts.0 parts.1 alive in
    let next = next_is_next p from m (is_branch line) shown may in
    record {
      sound = tree_sound (listing_tree p from) proof (Some m) worlds is.sound line none;
      node = next_shown_node p from m (listing_next p from (is_branch line) m) next;
      exact = one_between (IsShownNode p from) [] m (listing_next p from (is_branch line) m) seen is.exact shown (not_below_empty m)
          (next_node_after p from m (listing_next p from (is_branch line) m) next) (λ t w low above. covers p from m t (is_branch line) may w above);
    }

take_seen : (p : Problem) (from : List Rel) (n : ℕ) (s : Stand) (seen : List (List Rel)) (line : CertLine) (role : Role) → IsSeen p from s seen →
    (is_branch line ≡ true → IfSome s.at (λ m. IsAlive (problem_at p m))) → IsSeenStatus p from (take_by (listing_tree p from) n s line role) (seen ++ node_by role s.at)
take_seen p from n s seen line (ForProof proof) is alive = unless_seen p from (proof_fault s.proof proof) (n + 1) _ _ (λ none. record {
  sound = proof_sound (listing_tree p from) s proof is.sound none;
  node = is.node;
  exact = subst (IsExactly (Between (IsShownNode p from) [] s.at)) (sym (append-nil seen)) is.exact;
})
take_seen p from n s seen line (ForEnd to) is alive = unless_seen p from (end_fault s.at to) (n + 1) _ _ (λ none.
    subst (IsExactly (Between (IsShownNode p from) [] to)) (sym (append-nil seen)) (subst (λ at. IsExactly (Between (IsShownNode p from) [] at) seen) (ends_there s.at to none) is.exact))
take_seen p from n s seen line ForTree is alive =
    unless_seen p from (tree_fault (listing_tree p from) s.proof s.at line) (n + 1) _ _ (λ none. node_seen p from s.proof s.at s.worlds seen is line none alive)

step_seen : (p : Problem) (from : List Rel) (status : Status Stand Listed) (seen : List (List Rel)) (line : CertLine) → IsSeenStatus p from status seen →
    IsBranchAlive (listing_tree p from) status line → IsSeenStatus p from (step (listing_tree p from) status line) (seen ++ line_node status line)
step_seen p from (Going n s) seen line is alive = take_seen p from n s seen line (role_of line) is alive
step_seen p from (Ended listed) seen line is alive = subst (IsExactly (Between (IsShownNode p from) [] listed.to)) (sym (append-nil seen)) is
step_seen p from (Rejected number kind) seen line is alive = tt

pub steps_seen : (p : Problem) (from : List Rel) (status : Status Stand Listed) (seen : List (List Rel)) (lines : List CertLine) → IsSeenStatus p from status seen →
    AllBranchesAlive (listing_tree p from) status lines → IsSeenStatus p from (steps (listing_tree p from) status lines) (seen ++ visited (listing_tree p from) status lines)
steps_seen p from status seen [] is alive = subst (IsSeenStatus p from status) (sym (append-nil seen)) is
steps_seen p from status seen (line ∷ lines) is alive =
    let tree = listing_tree p from in
    subst (IsSeenStatus p from (steps tree (step tree status line) lines)) (append_assoc seen (line_node status line) (visited tree (step tree status line) lines))
    (steps_seen p from (step tree status line) (seen ++ line_node status line) lines (step_seen p from status seen line is alive.0) alive.1)

-- none is seen at first, and the root is a shown node
pub none_seen : (p : Problem) (from : List Rel) → IsSoundStand (listing_tree p from) (start p) → IsSeen p from (start p) []
none_seen p from sound = record {
  sound = sound;
  node = λ m e. let empty : [] ≡ m = cc in subst (IsShownNode p from) empty (inl refl, sound.shown [] refl);
  exact = record {
    ascending = refl;
    sound = λ t i. absurd (none_in i);
    complete = λ t w. absurd (below_nothing t (between_parts [] (Some []) t w.1).1);
  };
}
