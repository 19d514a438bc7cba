-- Nodes: their prefixes, what follows them, and the least node of a kind.
use Rattle.std.proofs.Common.{◌≡◌, ◌<◌, ◌≤◌, true, false, not, inl, inr, List, [], ◌∷◌, ◌++◌, length, sym, ap, ◌∙◌, subst, arith, IsTrue, append_assoc, append-nil}
use Rattle.std.specs.Prelude.{Some, None}
use Rattle.std.proofs.lemmas.Bool.{true≢false, not-true, not_from_false, cases_order}
use Rattle.rcc5_core.specs.declared.Rel.{Rel}
use Rattle.rcc5_core.specs.Relation.{rank_of}
use Rattle.rcc5_core.specs.RelationSet.{has, is_empty_set, first_of, next_of}
use Rattle.world_model.specs.Problem.{Problem, pairs, pair_count}
use Rattle.world_model.specs.Listing.{is_below}
use Rattle.world_model.specs.Alive.{allowed, problem_at, IsAlive}
use Rattle.world_model.specs.Node.{IsNode, pair_at}
use Rattle.world_model.proofs.Members.{all_at, In-get_or}
use Rattle.world_model.proofs.OrderPositions.{below_apart, below_itself, below_longer, below_branch}
use Rattle.world_model.proofs.PointOnce.{narrowed_beyond}
use Rattle.world_model.proofs.Nodes.{IsChild, child_within, child_is_node, prefix_is_node}
use Rattle.world_search.specs.Walking.{IsBehind, IsLeastNode, IsAfter}
use Rattle.world_search.proofs.Places.{Side, within, ahead, behind, side, below_both, not_below_behind, not_below_prefix}
use Rattle.world_model.proofs.Relations.{same_rank, first_is_in, first_is_least, some_has_first, next_is_in, next_is_least, none_is_next}

-- an alive prefix that is not full has a first child
pub first_child : (p : Problem) (c : List Rel) → IsAlive (problem_at p c) → length c < pair_count p →
    first_of (allowed p (pair_at p (length c))) ≡ None → ⊥
first_child p c a short none =
    let some : not (is_empty_set (allowed (problem_at p c) (pair_at p (length c)))) ≡ true =
    all_at (λ pair. not (is_empty_set (allowed (problem_at p c) pair))) a.allow (In-get_or (pairs p) (length c) (0, 0) short) in
    some_has_first (allowed p (pair_at p (length c)))
    (ap is_empty_set (sym (narrowed_beyond p c (length c) (omega arith) short)) ∙ not-true (is_empty_set (allowed (problem_at p c) (pair_at p (length c)))) some) none

-- the children of a prefix in order
pub below_child : (c rest : List Rel) (s t : Rel) → rank_of s ≤ rank_of t → is_below (c ++ t ∷ rest) (c ++ s ∷ []) ≡ false
below_child c rest s t upto = elim (cases_order (rank_of s) (rank_of t)) [
  | inl same ↦
      let one = same_rank s t same in
      subst (λ q. is_below (c ++ q ∷ rest) (c ++ s ∷ []) ≡ false) one
      (ap (λ x. is_below x (c ++ s ∷ [])) (sym (append_assoc c (s ∷ []) rest)) ∙ not_below_prefix (c ++ s ∷ []) rest)
  | inr (inl less) ↦ below_apart (c ++ s ∷ []) (c ++ t ∷ rest) (below_branch c s t [] rest less)
  | inr (inr more) ↦ absurd (omega arith)
]

-- a position behind all that begin with a child is below a later child
behind_child : (c : List Rel) (r t : Rel) (rest : List Rel) → IsBehind (c ++ r ∷ []) (c ++ t ∷ rest) → rank_of r < rank_of t
behind_child c r t rest f = elim (cases_order (rank_of r) (rank_of t)) [
  | inl same ↦
      let one = same_rank r t same in
      below_both ((c ++ r ∷ []) ++ rest) (c ++ t ∷ rest) (f rest)
      (ap (λ y. is_below y (c ++ t ∷ rest)) (append_assoc c (r ∷ []) rest) ∙ ap (λ q. is_below (c ++ q ∷ rest) (c ++ t ∷ rest)) one ∙ below_itself (c ++ t ∷ rest))
  | inr (inl less) ↦ less
  | inr (inr more) ↦
      below_both ((c ++ r ∷ []) ++ rest) (c ++ t ∷ rest) (f rest)
      (ap (λ y. is_below y (c ++ t ∷ rest)) (append_assoc c (r ∷ []) rest) ∙ below_apart (c ++ t ∷ rest) (c ++ r ∷ rest) (below_branch c t r rest rest more))
]

-- the least node after an alive one that is not full is its first child
pub least_after_alive : (p : Problem) (c : List Rel) (s : Rel) → IsAlive (problem_at p c) → length c < pair_count p →
    first_of (allowed p (pair_at p (length c))) ≡ Some s → IsLeastNode p (IsAfter c) (c ++ s ∷ [])
least_after_alive p c s a short is = record {
  node = child_is_node p c s (record { alive = a; short = short; allows = first_is_in (allowed p (pair_at p (length c))) s is });
  kind = below_longer c s [];
  least = λ x node after. not_from_false (is_below x (c ++ s ∷ [])) (least x node after (side c x));
}
  where
    least : (x : List Rel) → IsNode p x → IsTrue (is_below c x) → Side c x → is_below x (c ++ s ∷ []) ≡ false
    least x node after (within [] e) = below_both c x after (ap (λ y. is_below c y) (e ∙ append-nil c) ∙ below_itself c)
    least x node after (within (t ∷ rest) e) =
        let child = child_within p c t rest (subst (IsNode p) e node) in
        ap (λ y. is_below y (c ++ s ∷ [])) e ∙ below_child c rest s t (first_is_least (allowed p (pair_at p (length c))) s t is child.allows)
    least x node after (ahead f) = below_both c x after (below_apart x c (subst (λ y. IsTrue (is_below x y)) (append-nil c) (f [])))
    least x node after (behind f) = not_below_behind c x (s ∷ []) f

-- behind all that begin with a node is its next sibling first
pub least_behind : (p : Problem) (c : List Rel) (r s : Rel) → IsNode p (c ++ r ∷ []) → next_of (allowed p (pair_at p (length c))) r ≡ Some s →
    IsLeastNode p (IsBehind (c ++ r ∷ [])) (c ++ s ∷ [])
least_behind p c r s node is = record {
  node = child_is_node p c s (record { alive = here.alive; short = here.short; allows = next.0 });
  kind = λ rest. subst (λ y. IsTrue (is_below y (c ++ s ∷ []))) (sym (append_assoc c (r ∷ []) rest)) (below_branch c r s rest [] next.1);
  least = λ x n f. not_from_false (is_below x (c ++ s ∷ [])) (least x n f (side c x));
}
  where
    here : IsChild p c r
    here = child_within p c r [] node

    next : (has (allowed p (pair_at p (length c))) s ≡ true) × (rank_of r < rank_of s)
    next = next_is_in (allowed p (pair_at p (length c))) r s is

    least : (x : List Rel) → IsNode p x → IsBehind (c ++ r ∷ []) x → Side c x → is_below x (c ++ s ∷ []) ≡ false
    least x n f (within [] e) = below_both (c ++ r ∷ []) x (subst (λ y. IsTrue (is_below y x)) (append-nil (c ++ r ∷ [])) (f [])) (below_apart x (c ++ r ∷ []) (subst (λ y. IsTrue (is_below y (c ++ r ∷ []))) (sym (e ∙ append-nil c)) (below_longer c r [])))
    least x n f (within (t ∷ rest) e) =
        let child = child_within p c t rest (subst (IsNode p) e n) in
        ap (λ y. is_below y (c ++ s ∷ [])) e ∙
        below_child c rest s t (next_is_least (allowed p (pair_at p (length c))) r s t is child.allows (behind_child c r t rest (subst (IsBehind (c ++ r ∷ [])) e f)))
    least x n f (ahead g) = below_both (c ++ r ∷ []) x (subst (λ y. IsTrue (is_below y x)) (append-nil (c ++ r ∷ [])) (f [])) (below_apart x (c ++ r ∷ []) (g (r ∷ [])))
    least x n f (behind g) = not_below_behind c x (s ∷ []) g

-- a longer position's followers are behind what it is longer than, and the other way round where no sibling is allowed
pub behind_longer : (c rest x : List Rel) → IsBehind c x → IsBehind (c ++ rest) x
behind_longer c rest x f = λ more. subst (λ y. IsTrue (is_below y x)) (sym (append_assoc c rest more)) (f (rest ++ more))

pub behind_parent : (p : Problem) (c : List Rel) (r : Rel) → next_of (allowed p (pair_at p (length c))) r ≡ None →
    (x : List Rel) → IsNode p x → IsBehind (c ++ r ∷ []) x → IsBehind c x
behind_parent p c r none x n f = by (side c x)
  where
    by : Side c x → IsBehind c x
    by (within [] e) = below_both (c ++ r ∷ []) x (subst (λ y. IsTrue (is_below y x)) (append-nil (c ++ r ∷ [])) (f [])) (below_apart x (c ++ r ∷ []) (subst (λ y. IsTrue (is_below y (c ++ r ∷ []))) (sym (e ∙ append-nil c)) (below_longer c r [])))
    by (within (t ∷ rest) e) =
        let child = child_within p c t rest (subst (IsNode p) e n) in
        absurd (none_is_next (allowed p (pair_at p (length c))) r t none child.allows (behind_child c r t rest (subst (IsBehind (c ++ r ∷ [])) e f)))
    by (ahead g) = below_both (c ++ r ∷ []) x (subst (λ y. IsTrue (is_below y x)) (append-nil (c ++ r ∷ [])) (f [])) (below_apart x (c ++ r ∷ []) (g (r ∷ [])))
    by (behind g) = g

-- all nodes after one with no child are behind it
pub after_is_behind : (p : Problem) (c : List Rel) → ((t : Rel) → IsChild p c t → ⊥) → (x : List Rel) → IsNode p x → IsTrue (is_below c x) → IsBehind c x
after_is_behind p c none x n after = by (side c x)
  where
    by : Side c x → IsBehind c x
    by (within [] e) = below_both c x after (ap (λ y. is_below c y) (e ∙ append-nil c) ∙ below_itself c)
    by (within (t ∷ rest) e) = absurd (none t (child_within p c t rest (subst (IsNode p) e n)))
    by (ahead g) = below_both c x after (below_apart x c (subst (λ y. IsTrue (is_below x y)) (append-nil c) (g [])))
    by (behind g) = g

-- no position is behind all
pub none_behind_all : (x : List Rel) → IsBehind [] x → ⊥
none_behind_all x f = true≢false (sym (f x) ∙ below_itself x)

-- a climb from one node to its prefix, with the nodes behind it
pub record IsClimb (p : Problem) (old c : List Rel) : Type 0 where
  pub node : IsNode p c
  pub rest : List Rel
  pub longer : old ≡ c ++ rest
  pub behind : (x : List Rel) → IsNode p x → IsBehind old x → IsBehind c x

pub climb_on : (p : Problem) (old c parent : List Rel) (r : Rel) → IsClimb p old c → c ≡ parent ++ r ∷ [] → next_of (allowed p (pair_at p (length parent))) r ≡ None →
    IsClimb p old parent
climb_on p old c parent r k is none = record {
  node = prefix_is_node p parent (r ∷ []) (subst (IsNode p) is k.node);
  rest = r ∷ k.rest;
  longer = k.longer ∙ ap (λ m. m ++ k.rest) is ∙ append_assoc parent (r ∷ []) k.rest;
  behind = λ x n f. behind_parent p parent r none x n (subst (λ m. IsBehind m x) is (k.behind x n f));
}

pub climb_found : (p : Problem) (old c parent : List Rel) (r s : Rel) → IsClimb p old c → c ≡ parent ++ r ∷ [] → next_of (allowed p (pair_at p (length parent))) r ≡ Some s →
    IsLeastNode p (IsBehind old) (parent ++ s ∷ [])
climb_found p old c parent r s k is found =
    let least : IsLeastNode p (IsBehind (parent ++ r ∷ [])) (parent ++ s ∷ []) = least_behind p parent r s (subst (IsNode p) is k.node) found in
    record {
      node = least.node;
      kind = subst (λ m. IsBehind m (parent ++ s ∷ [])) (sym (k.longer ∙ ap (λ m. m ++ k.rest) is)) (behind_longer (parent ++ r ∷ []) k.rest (parent ++ s ∷ []) least.kind);
      least = λ x n f. least.least x n (subst (λ m. IsBehind m x) is (k.behind x n f));
    }

pub climb_none : (p : Problem) (old c : List Rel) → IsClimb p old c → c ≡ [] → (x : List Rel) → IsNode p x → IsBehind old x → ⊥
climb_none p old c k empty x n f = none_behind_all x (subst (λ m. IsBehind m x) empty (k.behind x n f))
