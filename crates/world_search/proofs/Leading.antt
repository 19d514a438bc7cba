-- Where a walk goes on to: the least node of a kind.
use Rattle.std.proofs.Common.{◌≡◌, ◌<◌, ◌≤◌, true, false, not, ◌⊎◌, inl, inr, List, [], ◌∷◌, ◌++◌, length, sym, ap, ◌∙◌, subst, arith, IsTrue, append_assoc, append-nil, length-append}
use Rattle.std.specs.Prelude.{Option, Some, None, slice_get}
use Rattle.std.proofs.lemmas.Bool.{true≢false, not-true, not_from_false, cases_order}
use Rattle.rcc5_core.specs.declared.Rel.{Rel}
use Rattle.rcc5_core.specs.Relation.{rank_of}
use Rattle.rcc5_core.specs.RelationSet.{has, first_of, next_of}
use Rattle.world_model.specs.Problem.{Problem, pair_count}
use Rattle.world_model.specs.Listing.{is_below}
use Rattle.world_model.specs.Alive.{allowed, problem_at, IsAlive}
use Rattle.world_model.specs.Node.{IsNode, pair_at}
use Rattle.world_model.proofs.OrderPositions.{below_apart, below_itself, below_longer, below_branch}
use Rattle.world_search.specs.declared.walk.Stage.{Stage}
use Rattle.world_search.specs.declared.walk.Stage.TheVariants.{Start, Standing, Past}
use Rattle.world_search.specs.declared.walk.Walk.{Walk}
use Rattle.world_search.specs.Walking.{IsBehind, waiting, place, LeadsBy, IsOnWay, IsFrom, IsAfter}
use Rattle.world_search.proofs.Places.{Upward, within, behind, upward, below_both, not_below_behind}
use Rattle.world_model.proofs.Relations.{same_rank, next_is_in, next_is_least, none_is_next}
use Rattle.world_model.proofs.Nodes.{IsChild, child_within, child_is_node}
use Rattle.world_search.proofs.LeastNodes.{below_child, first_child, least_after_alive, after_is_behind}

-- the least node of one kind is that of another, where the nodes of the one are those of the other
pub leads_as : (p : Problem) (K L : List Rel → Type 0) (m : List Rel) (stage : Stage) → ((x : List Rel) → K x → L x) → ((x : List Rel) → IsNode p x → L x → K x) →
    LeadsBy p K m stage → LeadsBy p L m stage
leads_as p K L m Start into back leads = leads
leads_as p K L m Standing into back leads = record {
  node = leads.node;
  kind = into m leads.kind;
  least = λ x node l. leads.least x node (back x node l);
}
leads_as p K L m Past into back leads = λ x node l. leads x node (back x node l)

-- a dead or a full node has no child
pub dead_childless : (p : Problem) (c : List Rel) → (IsAlive (problem_at p c) → ⊥) → (t : Rel) → IsChild p c t → ⊥
dead_childless p c dead t child = dead child.alive

pub full_childless : (p : Problem) (c : List Rel) → pair_count p ≤ length c → (t : Rel) → IsChild p c t → ⊥
full_childless p c full t child = let short = child.short in omega arith

-- the nodes after a childless one are behind it
pub leads_after : (p : Problem) (c m : List Rel) (stage : Stage) → ((t : Rel) → IsChild p c t → ⊥) →
    LeadsBy p (IsBehind c) m stage → LeadsBy p (IsAfter c) m stage
leads_after p c m stage childless leads =
    leads_as p (IsBehind c) (IsAfter c) m stage
    (λ x f. subst (λ y. IsTrue (is_below y x)) (append-nil c) (f [])) (λ x node after. after_is_behind p c childless x node after) leads

-- to the first child of an alive node
pub leads_within : (p : Problem) (c : List Rel) (next : Option Rel) → IsAlive (problem_at p c) → length c < pair_count p →
    next ≡ first_of (allowed p (pair_at p (length c))) → LeadsBy p (IsAfter c) (c ++ waiting next) Standing
leads_within p c None alive short is = absurd (first_child p c alive short (sym is))
leads_within p c (Some s) alive short is = least_after_alive p c s alive short (sym is)

-- the start is its own first node, where it is one
pub leads_to_start : (p : Problem) (from c rest : List Rel) → IsNode p c → from ≡ c ++ rest → length from ≤ length c →
    LeadsBy p (IsFrom from) (c ++ []) Standing
leads_to_start p from c rest node begins long =
    let same : from ≡ c ++ [] = by rest begins in
    record {
      node = subst (IsNode p) (sym (append-nil c)) node;
      kind = not_from_false (is_below (c ++ []) from) (ap (λ x. is_below x from) (sym same) ∙ below_itself from);
      least = λ x n from_there. subst (λ m. IsTrue (not (is_below x m))) same from_there;
    }
  where
    by : (rest : List Rel) → from ≡ c ++ rest → from ≡ c ++ []
    by [] e = e
    by (r ∷ rest) e =
        let one = ap length e in
        let more = length-append c (r ∷ rest) in
        absurd (omega arith)

-- nodes from the start on are behind a prefix of it that is no node's
pub leads_from_behind : (p : Problem) (from c rest m : List Rel) (stage : Stage) → from ≡ c ++ rest →
    ((x : List Rel) → IsNode p x → IsTrue (not (is_below x from)) → IsBehind c x) →
    LeadsBy p (IsBehind c) m stage → LeadsBy p (IsFrom from) m stage
leads_from_behind p from c rest m stage begins each leads =
    leads_as p (IsBehind c) (IsFrom from) m stage
    (λ x f. not_from_false (is_below x from) (ap (is_below x) begins ∙ not_below_behind c x rest f)) each leads

-- what is from the start on, by a prefix of the start and the relation that follows: it begins with the prefix and a relation
-- that is not earlier, or is behind the prefix
pub data FromStart (c : List Rel) (r : Rel) (x : List Rel) : Type 0 where
  along : (rest : List Rel) → x ≡ c ++ r ∷ rest → FromStart c r x
  later : (t : Rel) (rest : List Rel) → x ≡ c ++ t ∷ rest → rank_of r < rank_of t → FromStart c r x
  beyond : IsBehind c x → FromStart c r x

from_start : (from c : List Rel) (r : Rel) (rest x : List Rel) → from ≡ c ++ r ∷ rest → is_below x from ≡ false → FromStart c r x
from_start from c r rest x begins from_there = by (upward c (r ∷ rest) x high)
  where
    high : is_below x (c ++ r ∷ rest) ≡ false
    high = subst (λ m. is_below x m ≡ false) begins from_there

    child : (t : Rel) (more : List Rel) → x ≡ c ++ t ∷ more → (rank_of t ≡ rank_of r) ⊎ ((rank_of t < rank_of r) ⊎ (rank_of r < rank_of t)) → FromStart c r x
    child t more e (inl same) = let one = same_rank t r same in along more (e ∙ ap (λ q. c ++ q ∷ more) one)
    child t more e (inr (inl less)) = below_both (c ++ t ∷ more) (c ++ r ∷ rest) (below_branch c t r more rest less) (subst (λ y. is_below y (c ++ r ∷ rest) ≡ false) e high)
    child t more e (inr (inr more_than)) = later t more e more_than

    by : Upward c x → FromStart c r x
    by (within [] e) = below_both c (c ++ r ∷ rest) (below_longer c r rest) (subst (λ y. is_below y (c ++ r ∷ rest) ≡ false) (e ∙ append-nil c) high)
    by (within (t ∷ more) e) = child t more e (cases_order (rank_of t) (rank_of r))
    by (behind f) = beyond f

-- no node from the start on begins with a dead prefix of it, or with one whose pair allows no relation from the start's on
pub dead_from_behind : (p : Problem) (from c : List Rel) (r : Rel) (rest : List Rel) → from ≡ c ++ r ∷ rest → (IsAlive (problem_at p c) → ⊥) →
    (x : List Rel) → IsNode p x → IsTrue (not (is_below x from)) → IsBehind c x
dead_from_behind p from c r rest begins dead x node from_there = by (from_start from c r rest x begins (not-true (is_below x from) from_there))
  where
    by : FromStart c r x → IsBehind c x
    by (along more e) = absurd (dead (child_within p c r more (subst (IsNode p) e node)).alive)
    by (later t more e less) = absurd (dead (child_within p c t more (subst (IsNode p) e node)).alive)
    by (beyond f) = f

pub none_from_behind : (p : Problem) (from c : List Rel) (r : Rel) (rest : List Rel) → from ≡ c ++ r ∷ rest →
    has (allowed p (pair_at p (length c))) r ≡ false → next_of (allowed p (pair_at p (length c))) r ≡ None →
    (x : List Rel) → IsNode p x → IsTrue (not (is_below x from)) → IsBehind c x
none_from_behind p from c r rest begins lacks none x node from_there = by (from_start from c r rest x begins (not-true (is_below x from) from_there))
  where
    by : FromStart c r x → IsBehind c x
    by (along more e) = absurd (true≢false (sym (child_within p c r more (subst (IsNode p) e node)).allows ∙ lacks))
    by (later t more e less) = absurd (none_is_next (allowed p (pair_at p (length c))) r t none (child_within p c t more (subst (IsNode p) e node)).allows less)
    by (beyond f) = f

-- else the next relation that is allowed leads to the first
pub leads_to_later : (p : Problem) (from c : List Rel) (r : Rel) (rest : List Rel) (s : Rel) → from ≡ c ++ r ∷ rest →
    IsAlive (problem_at p c) → length c < pair_count p →
    has (allowed p (pair_at p (length c))) r ≡ false → next_of (allowed p (pair_at p (length c))) r ≡ Some s →
    LeadsBy p (IsFrom from) (c ++ s ∷ []) Standing
leads_to_later p from c r rest s begins alive short lacks is = record {
  node = child_is_node p c s (record { alive = alive; short = short; allows = next.0 });
  kind = not_from_false (is_below (c ++ s ∷ []) from) (ap (is_below (c ++ s ∷ [])) begins ∙ below_apart (c ++ r ∷ rest) (c ++ s ∷ []) (below_branch c r s rest [] next.1));
  least = λ x node from_there. not_from_false (is_below x (c ++ s ∷ [])) (least x node (from_start from c r rest x begins (not-true (is_below x from) from_there)));
}
  where
    next : (has (allowed p (pair_at p (length c))) s ≡ true) × (rank_of r < rank_of s)
    next = next_is_in (allowed p (pair_at p (length c))) r s is

    least : (x : List Rel) → IsNode p x → FromStart c r x → is_below x (c ++ s ∷ []) ≡ false
    least x node (along more e) = absurd (true≢false (sym (child_within p c r more (subst (IsNode p) e node)).allows ∙ lacks))
    least x node (later t more e less) =
        ap (λ y. is_below y (c ++ s ∷ [])) e ∙
        below_child c more s t (next_is_least (allowed p (pair_at p (length c))) r s t is (child_within p c t more (subst (IsNode p) e node)).allows less)
    least x node (beyond f) = not_below_behind c x (s ∷ []) f

-- the rest of the start after a shorter prefix begins with the start's relation there
pub rest_begins : (from c rest : List Rel) (r : Rel) → from ≡ c ++ rest → slice_get from (length c) ≡ Some r → (more : List Rel) × (from ≡ c ++ r ∷ more)
rest_begins from c rest r begins at =
    let found = by c rest (subst (λ m. slice_get m (length c) ≡ Some r) begins at) in
    (found.0, begins ∙ ap (λ m. c ++ m) found.1)
  where
    by : (c rest : List Rel) → slice_get (c ++ rest) (length c) ≡ Some r → (more : List Rel) × (rest ≡ r ∷ more)
    by [] [] e = cc
    by [] (q ∷ qs) e = let same : q ≡ r = cc in (qs, λ i. same i ∷ qs)
    by (x ∷ c) rest e = by c rest e

-- a walk with no relation that waits stands at its path
pub place_settled : (w : Walk) → w.next ≡ None → place w ≡ w.path
place_settled w none = ap (λ next. w.path ++ waiting next) none ∙ append-nil w.path

pub way_node : (p : Problem) (from : List Rel) (w : Walk) → IsOnWay p from w → w.next ≡ None → IsNode p w.path
way_node p from w way none = subst (IsNode p) (place_settled w none) way.node

pub way_begins : (p : Problem) (from : List Rel) (w : Walk) (way : IsOnWay p from w) → w.next ≡ None → from ≡ w.path ++ way.rest
way_begins p from w way none = way.begins ∙ ap (λ m. m ++ way.rest) (place_settled w none)

-- a longer prefix of the start
pub longer_way : (p : Problem) (from : List Rel) (old new : Walk) (r : Rel) → IsOnWay p from old → old.next ≡ None → slice_get from (length old.path) ≡ Some r →
    IsAlive (problem_at p old.path) → length old.path < pair_count p → has (allowed p (pair_at p (length old.path))) r ≡ true →
    new.stage ≡ old.stage → place new ≡ old.path ++ r ∷ [] → IsOnWay p from new
longer_way p from old new r way none at alive short allows stage path =
    let more = rest_begins from old.path way.rest r (way_begins p from old way none) at in
    record {
      begun = stage ∙ way.begun;
      node = subst (IsNode p) (sym path) (child_is_node p old.path r (record { alive = alive; short = short; allows = allows }));
      rest = more.0;
      begins = more.1 ∙ sym (append_assoc old.path (r ∷ []) more.0) ∙ ap (λ m. m ++ more.0) (sym path);
    }

-- a walk at the same place is on the way still
pub same_way : (p : Problem) (from : List Rel) (old new : Walk) → IsOnWay p from old → new.stage ≡ old.stage → place new ≡ place old → IsOnWay p from new
same_way p from old new way stage same = record {
  begun = stage ∙ way.begun;
  node = subst (IsNode p) (sym same) way.node;
  rest = way.rest;
  begins = way.begins ∙ ap (λ m. m ++ way.rest) (sym same);
}

-- a start that is longer than a prefix of it goes on
pub rest_goes_on : (from c rest : List Rel) → from ≡ c ++ rest → length c < length from → (r : Rel) × (more : List Rel) × (from ≡ c ++ r ∷ more)
rest_goes_on from c [] begins longer = let same = ap length (begins ∙ append-nil c) in absurd (omega arith)
rest_goes_on from c (r ∷ more) begins longer = (r, more, begins)
