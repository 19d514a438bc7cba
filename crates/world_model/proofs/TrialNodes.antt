-- The walk through the prefixes finds exactly the nodes, in order.
use Rattle.std.proofs.Common.{◌≡◌, ℕ, zero, suc, ◌+◌, ◌<◌, Bool, true, false, not, cond, ◌&&◌, ◌⊎◌, inl, inr, List, [], ◌∷◌, ◌++◌, length, get_or, refl, sym, ap, ◌∙◌, subst, arith, IsTrue, append_assoc, append-nil, length-append, ltb-true, eqb-true}
use Rattle.std.specs.Prelude.{nat_lt, filter, flat_map, Option}
use Rattle.std.specs.List.{list_all, list_any}
use Rattle.std.proofs.Math.Seq.{get_or-append_seam}
use Rattle.std.proofs.lemmas.Bool.{and_parts, and_from, not-true, not-false}
use Rattle.rcc5_core.specs.declared.Rel.{Rel}
use Rattle.rcc5_core.specs.declared.Rel.TheVariants.{Equals, Includes, IncludedIn, Overlaps, Disjoint}
use Rattle.rcc5_core.specs.declared.RelSet.{RelSet}
use Rattle.rcc5_core.specs.Relation.{rank_of, all_rels, same_rel}
use Rattle.rcc5_core.specs.RelationSet.{has, rels_that, both_of, only, is_empty_set}
use Rattle.world_model.specs.Problem.{Problem, pairs, pair_count}
use Rattle.world_model.specs.Listing.{is_below, is_between, ascends}
use Rattle.world_model.specs.Alive.{allowed, IsAlive, problem_at}
use Rattle.world_model.specs.Node.{IsNode, IsStep, pair_at}
use Rattle.world_model.specs.Trial.{alive_by_trial, next_rels, nodes_below, nodes_by_trial, nodes_between}
use Rattle.world_model.proofs.Members.{In, here, there, IsOf, Found, all_at, all_from, any_at, In-filter, from_filter, In-flat_map, from_flat_map, In-get_or}
use Rattle.world_model.proofs.OrderPositions.{below_longer, below_branch}
use Rattle.world_model.proofs.OrderLists.{IsExactly, Between, ascends_from, ascends_append, ascends_filter}
use Rattle.world_model.proofs.PointPositions.{prefix_is_alive}
use Rattle.world_model.proofs.PointOnce.{narrowed_inside}
use Rattle.world_model.proofs.TrialPoints.{alive_by_trial-iff}
use Rattle.world_model.proofs.Relations.{same_rank, rises}

rises_filter : (test : Rel → Bool) (rs : List Rel) → IsTrue (rises rs) → IsTrue (rises (filter test rs))
rises_filter test [] h = refl
rises_filter test (r ∷ rs) h = kept (test r) (rises_filter test rs parts.1)
  where
    parts : IsTrue (list_all (λ s. nat_lt (rank_of r) (rank_of s)) rs) × IsTrue (rises rs)
    parts = and_parts (list_all (λ s. nat_lt (rank_of r) (rank_of s)) rs) (rises rs) h

    kept : (b : Bool) → IsTrue (rises (filter test rs)) → IsTrue (rises (cond b (r ∷ filter test rs) (filter test rs)))
    kept true k =
        and_from (list_all (λ s. nat_lt (rank_of r) (rank_of s)) (filter test rs)) (rises (filter test rs))
        (all_from (λ s. nat_lt (rank_of r) (rank_of s)) (filter test rs) (λ s i. all_at (λ s. nat_lt (rank_of r) (rank_of s)) parts.0 (from_filter test rs i).0)) k
    kept false k = k

-- ascending lists for relations that come one after the other, each below the lists of later ones, ascend as one
ascends_flat_map : (f : Rel → List (List Rel)) (rs : List Rel) → IsTrue (rises rs) → ((r : Rel) → IsTrue (ascends (f r))) →
    ((r s : Rel) (t u : List Rel) → rank_of r < rank_of s → In t (f r) → In u (f s) → IsTrue (is_below t u)) → IsTrue (ascends (flat_map f rs))
ascends_flat_map f [] h each apart = refl
ascends_flat_map f (r ∷ rs) h each apart =
    ascends_append (f r) (flat_map f rs) (each r) (ascends_flat_map f rs parts.1 each apart) (λ t u i j. later t u i (from_flat_map f rs j))
  where
    parts : IsTrue (list_all (λ s. nat_lt (rank_of r) (rank_of s)) rs) × IsTrue (rises rs)
    parts = and_parts (list_all (λ s. nat_lt (rank_of r) (rank_of s)) rs) (rises rs) h

    later : (t u : List Rel) → In t (f r) → IsOf f u rs → IsTrue (is_below t u)
    later t u i o =
        apart r o.source t u (ltb-true (rank_of r) (rank_of o.source) (all_at (λ s. nat_lt (rank_of r) (rank_of s)) parts.0 o.member)) i o.has

-- the nodes below one node, by the relation that follows it
abbrev branch : Problem → ℕ → List Rel → Rel → List (List Rel)
branch p left m r = nodes_below p left (m ++ r ∷ [])

-- a node below m other than m itself
record IsLower (p : Problem) (left : ℕ) (m t : List Rel) : Type 0 where
  alive : IsTrue (alive_by_trial (problem_at p m))
  of : IsOf (branch p left m) t (next_rels p m)

lower_if : (p : Problem) (left : ℕ) (m t : List Rel) (b : Bool) → alive_by_trial (problem_at p m) ≡ b →
    In t (cond b (flat_map (branch p left m) (next_rels p m)) []) → IsLower p left m t
lower_if p left m t true e i = record { alive = e; of = from_flat_map (branch p left m) (next_rels p m) i }
lower_if p left m t false e i = elim i [ ]

-- a node is the first of those below it
node_itself : (p : Problem) (left : ℕ) (m : List Rel) → In m (nodes_below p left m)
node_itself p zero m = here refl
node_itself p (suc left) m = here refl

from_nodes_below : (p : Problem) (left : ℕ) (m t : List Rel) → In t (nodes_below p (suc left) m) → (t ≡ m) ⊎ IsLower p left m t
from_nodes_below p left m t (here e) = inl e
from_nodes_below p left m t (there i) = inr (lower_if p left m t (alive_by_trial (problem_at p m)) refl i)

in_nodes_below : (p : Problem) (left : ℕ) (m t : List Rel) (r : Rel) → IsTrue (alive_by_trial (problem_at p m)) → In r (next_rels p m) →
    In t (branch p left m r) → In t (nodes_below p (suc left) m)
in_nodes_below p left m t r alive i j =
    there (subst (λ b. In t (cond b (flat_map (branch p left m) (next_rels p m)) [])) (sym alive) (In-flat_map (branch p left m) i j))

-- what follows a prefix in a longer position
record IsLonger (m t : List Rel) : Type 0 where
  rest : List Rel
  is : t ≡ m ++ rest

longer_by : (m t : List Rel) (r : Rel) (rest : List Rel) → t ≡ (m ++ r ∷ []) ++ rest → t ≡ m ++ r ∷ rest
longer_by m t r rest e = e ∙ append_assoc m (r ∷ []) rest

-- each begins with the node that it is below
begins : (p : Problem) (left : ℕ) (m t : List Rel) → In t (nodes_below p left m) → IsLonger m t
begins p zero m t (here e) = record { rest = []; is = e ∙ sym (append-nil m) }
begins p zero m t (there i) = elim i [ ]
begins p (suc left) m t i = elim (from_nodes_below p left m t i) [
  | inl e ↦ record { rest = []; is = e ∙ sym (append-nil m) }
  | inr l ↦
      let b : IsLonger (m ++ l.of.source ∷ []) t = begins p left (m ++ l.of.source ∷ []) t l.of.has in
      record { rest = l.of.source ∷ b.rest; is = longer_by m t l.of.source b.rest b.is }
]

-- and all stand in order
nodes_ascend : (p : Problem) (left : ℕ) (m : List Rel) → IsTrue (ascends (nodes_below p left m))
nodes_ascend p zero m = refl
nodes_ascend p (suc left) m =
    ascends_from m (lower (alive_by_trial (problem_at p m))) (λ t i. after t (lower_if p left m t (alive_by_trial (problem_at p m)) refl i))
    (lower_ascend (alive_by_trial (problem_at p m)) (λ r. nodes_ascend p left (m ++ r ∷ [])))
  where
    lower : Bool → List (List Rel)
    lower b = cond b (flat_map (branch p left m) (next_rels p m)) []

    at : (r : Rel) (t : List Rel) → In t (branch p left m r) → (rest : List Rel) × (t ≡ m ++ r ∷ rest)
    at r t i = let b : IsLonger (m ++ r ∷ []) t = begins p left (m ++ r ∷ []) t i in (b.rest, longer_by m t r b.rest b.is)

    after : (t : List Rel) → IsLower p left m t → IsTrue (is_below m t)
    after t l =
        let w = at l.of.source t l.of.has in
        subst (λ x. IsTrue (is_below m x)) (sym w.1) (below_longer m l.of.source w.0)

    apart : (r s : Rel) (t u : List Rel) → rank_of r < rank_of s → In t (branch p left m r) → In u (branch p left m s) → IsTrue (is_below t u)
    apart r s t u h i j =
        let v = at r t i in
        let w = at s u j in
        rw (v.1, w.1) (below_branch m r s v.0 w.0 h)

    lower_ascend : (b : Bool) → ((r : Rel) → IsTrue (ascends (branch p left m r))) → IsTrue (ascends (lower b))
    lower_ascend true each = ascends_flat_map (branch p left m) (next_rels p m) (rises_filter (has (allowed p (pair_at p (length m)))) all_rels refl) each apart
    lower_ascend false each = refl

-- all below a node are nodes
nodes_sound : (p : Problem) (left : ℕ) (m t : List Rel) → length m + left ≡ pair_count p → IsNode p m → In t (nodes_below p left m) → IsNode p t
nodes_sound p zero m t room node (here e) = subst (IsNode p) (sym e) node
nodes_sound p zero m t room node (there i) = elim i [ ]
nodes_sound p (suc left) m t room node i = elim (from_nodes_below p left m t i) [
  | inl e ↦ subst (IsNode p) (sym e) node
  | inr l ↦
      let more = length-append m (l.of.source ∷ []) in
      let step : IsStep p (m ++ l.of.source ∷ []) = record {
        prefix = m;
        rel = l.of.source;
        follows = refl;
        not_full = omega arith;
        alive = (alive_by_trial-iff (problem_at p m)).0 l.alive;
        allows = (from_filter (has (allowed p (pair_at p (length m)))) all_rels l.of.member).1;
      } in
      nodes_sound p left (m ++ l.of.source ∷ []) t (omega arith) (inr step) l.of.has
]

has-rels_that : (test : Rel → Bool) (r : Rel) → has (rels_that test) r ≡ test r
has-rels_that test Equals = refl
has-rels_that test Includes = refl
has-rels_that test IncludedIn = refl
has-rels_that test Overlaps = refl
has-rels_that test Disjoint = refl

-- a set has the one relation to which it is narrowed, where any is left
narrow_has : (set : RelSet) (r : Rel) → not (is_empty_set (both_of set (only r))) ≡ true → has set r ≡ true
narrow_has set r h =
    let some : list_any (has (both_of set (only r))) all_rels ≡ true = not-false (list_any (has (both_of set (only r))) all_rels) (not-true (is_empty_set (both_of set (only r))) h) in
    found (any_at (has (both_of set (only r))) all_rels some)
  where
    found : Found (has (both_of set (only r))) all_rels → has set r ≡ true
    found f =
        let parts = and_parts (has set f.item) (has (only r) f.item) (sym (has-rels_that (λ rel. has set rel && has (only r) rel) f.item) ∙ f.passes) in
        let same = eqb-true (rank_of r) (rank_of f.item) (sym (has-rels_that (λ other. same_rel r other) f.item) ∙ parts.1) in
        ap (has set) (same_rank r f.item same) ∙ parts.0

-- each relation of an alive position is allowed
allowed_along : (p : Problem) → (m : List Rel) (k : ℕ) → k < length m → k < pair_count p → IsAlive (problem_at p m) →
    has (allowed p (pair_at p k)) (get_or m k Equals) ≡ true
allowed_along p m k in_m in_p a =
    let some : not (is_empty_set (allowed (problem_at p m) (pair_at p k))) ≡ true =
    all_at (λ pair. not (is_empty_set (allowed (problem_at p m) pair))) a.allow (In-get_or (pairs p) k (0, 0) in_p) in
    narrow_has (allowed p (pair_at p k)) (get_or m k Equals) (ap (λ set. not (is_empty_set set)) (sym (narrowed_inside p m k in_m in_p)) ∙ some)

rel_in_all : (r : Rel) → In r all_rels
rel_in_all Equals = here refl
rel_in_all Includes = there (here refl)
rel_in_all IncludedIn = there (there (here refl))
rel_in_all Overlaps = there (there (there (here refl)))
rel_in_all Disjoint = there (there (there (there (here refl))))

in_next : (p : Problem) (m : List Rel) (r : Rel) → has (allowed p (pair_at p (length m))) r ≡ true → In r (next_rels p m)
in_next p m r h = In-filter (has (allowed p (pair_at p (length m)))) (rel_in_all r) h

-- each step from a longer alive position is found below its prefixes
nodes_complete : (p : Problem) → (left : ℕ) (m rest whole : List Rel) (r : Rel) → whole ≡ m ++ rest → length m + left ≡ pair_count p →
    length whole < pair_count p → IsAlive (problem_at p whole) → has (allowed p (pair_at p (length whole))) r ≡ true →
    In (whole ++ r ∷ []) (nodes_below p left m)
nodes_complete p zero m rest whole r is room short a allows =
    let long = ap length is in
    let more = length-append m rest in
    absurd (omega arith)
nodes_complete p (suc left) m [] whole r is room short a allows =
    let same : whole ≡ m = is ∙ append-nil m in
    let alive : IsTrue (alive_by_trial (problem_at p m)) = (alive_by_trial-iff (problem_at p m)).1 (subst (λ x. IsAlive (problem_at p x)) same a) in
    let next : In r (next_rels p m) = in_next p m r (subst (λ x. has (allowed p (pair_at p (length x))) r ≡ true) same allows) in
    subst (λ x. In (x ++ r ∷ []) (nodes_below p (suc left) m)) (sym same)
    (in_nodes_below p left m (m ++ r ∷ []) r alive next (node_itself p left (m ++ r ∷ [])))
nodes_complete p (suc left) m (s ∷ rest) whole r is room short a allows =
    let long = ap length is in
    let more = length-append m (s ∷ rest) in
    let one = length-append m (s ∷ []) in
    let alive : IsTrue (alive_by_trial (problem_at p m)) =
    (alive_by_trial-iff (problem_at p m)).1 (prefix_is_alive p m (s ∷ rest) (subst (λ x. IsAlive (problem_at p x)) is a)) in
    let there_is : get_or whole (length m) Equals ≡ s = ap (λ x. get_or x (length m) Equals) is ∙ get_or-append_seam m s rest Equals in
    let allowed_there : has (allowed p (pair_at p (length m))) s ≡ true =
    ap (has (allowed p (pair_at p (length m)))) (sym there_is) ∙ allowed_along p whole (length m) (omega arith) (omega arith) a in
    in_nodes_below p left m (whole ++ r ∷ []) s alive (in_next p m s allowed_there)
    (nodes_complete p left (m ++ s ∷ []) rest whole r (is ∙ sym (append_assoc m (s ∷ []) rest)) (omega arith) short a allows)

-- the walk finds exactly the nodes
nodes_exactly : (p : Problem) → IsExactly (IsNode p) (nodes_by_trial p)
nodes_exactly p = record {
  ascending = nodes_ascend p (pair_count p) [];
  sound = λ t i. nodes_sound p (pair_count p) [] t (omega arith) (inl refl) i;
  complete = complete;
}
  where
    complete : (t : List Rel) → IsNode p t → In t (nodes_by_trial p)
    complete t (inl empty) = subst (λ x. In x (nodes_by_trial p)) (sym empty) (node_itself p (pair_count p) [])
    complete t (inr step) =
        subst (λ x. In x (nodes_by_trial p)) (sym step.follows)
        (nodes_complete p (pair_count p) [] step.prefix step.prefix step.rel refl (omega arith) step.not_full step.alive step.allows)

-- and so with those between two positions
pub nodes_between_exactly : (p : Problem) → (from : List Rel) (to : Option (List Rel)) → IsExactly (Between (IsNode p) from to) (nodes_between p from to)
nodes_between_exactly p from to =
    let all = nodes_exactly p in
    record {
      ascending = ascends_filter (is_between from to) (nodes_by_trial p) all.ascending;
      sound = λ t i. let parts = from_filter (is_between from to) (nodes_by_trial p) i in (all.sound t parts.0, parts.1);
      complete = λ t w. In-filter (is_between from to) (all.complete t w.0) w.1;
    }
