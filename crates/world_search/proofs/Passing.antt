-- What a walk passes: nodes and worlds between two places, one step after another.
use Rattle.std.proofs.Common.{◌≡◌, ℕ, ◌+◌, ◌<◌, Bool, true, false, not, inl, inr, List, [], ◌∷◌, ◌++◌, length, refl, sym, ap, ◌∙◌, subst, arith, IsTrue, append-nil, length-append}
use Rattle.std.specs.Prelude.{Option, Some, None, if◌then◌else◌}
use Rattle.std.proofs.lemmas.Bool.{true≢false, not-true, not_from_false}
use Rattle.rcc5_core.specs.declared.Rel.{Rel}
use Rattle.world_model.specs.Problem.{Problem}
use Rattle.world_model.specs.Family.{IsPossibleWorld}
use Rattle.world_model.specs.Listing.{is_below, is_before_end, is_between}
use Rattle.world_model.specs.Laws.{is_not_above_end}
use Rattle.world_model.specs.Node.{IsNode, IsNodeFrom}
use Rattle.world_model.specs.Trial.{nodes_between}
use Rattle.world_model.proofs.Members.{In, here, there}
use Rattle.world_model.proofs.OrderPositions.{below_itself, below_chain, below_cases, below_apart, below_upto, upto_below}
use Rattle.world_model.proofs.OrderLists.{IsExactly, Between, between_parts, between_from, exactly_join, one_exact}
use Rattle.world_model.proofs.OrderListings.{listed, listing, noded, node_list}
use Rattle.world_model.proofs.PointPositions.{prefix_is_node}
use Rattle.world_model.proofs.TrialNodes.{nodes_between_exactly}
use Rattle.world_search.specs.Searching.{SearchState, StandsBetween, Passes, FellBy, Came, last_place, IsNodeAtEnd}
use Rattle.world_search.specs.declared.walk.Stage.{Stage}
use Rattle.world_search.specs.declared.walk.Stage.TheVariants.{Start, Standing, Past}
use Rattle.world_search.specs.declared.walk.Walk.{Walk}
use Rattle.world_search.specs.Walking.{place, LeadsBy, IsFrom, IsAfter, IsStanding, IsPlacedBy, at_by, left_by}

-- a list of no position, and of one
exact_none : (W : List Rel → Type 0) → ((t : List Rel) → W t → ⊥) → IsExactly W []
exact_none W none = record { ascending = refl; sound = λ t i. elim i [ ]; complete = λ t w. absurd (none t w) }

exact_one : (W : List Rel → Type 0) (v : List Rel) → W v → ((t : List Rel) → W t → t ≡ v) → IsExactly W (v ∷ [])
exact_one W v has only = record {
  ascending = refl;
  sound = sound;
  complete = λ t w. here (only t w);
}
  where
    sound : (t : List Rel) → In t (v ∷ []) → W t
    sound t (here e) = subst W (sym e) has
    sound t (there i) = elim i [ ]

-- each world is a node
pub world_is_node : (p : Problem) (t : List Rel) → IsPossibleWorld p t → IsNode p t
world_is_node p t world = prefix_is_node p t [] (subst (IsPossibleWorld p) (sym (append-nil t)) world)

-- nothing stands between two places where no node does
stands_none : (p : Problem) (one : List Rel) (other : Option (List Rel)) →
    ((m : List Rel) → IsTrue (not (is_before_end m other)) → IsTrue (not (is_below m one))) →
    ((x : List Rel) → IsNodeFrom p one x → IsTrue (is_before_end x other) → ⊥) → StandsBetween p one other [] []
stands_none p one other onward none = record {
  onward = onward;
  nodes_are = node_list p one other [] (exact_none (Between (IsNode p) one other) (λ t w. no_node t w.0 w.1));
  worlds_are = listing p one other [] (exact_none (Between (IsPossibleWorld p) one other) (λ t w. no_node t (world_is_node p t w.0) w.1));
}
  where
    no_node : (t : List Rel) → IsNode p t → IsTrue (is_between one other t) → ⊥
    no_node t node between = let parts = between_parts one other t between in none t (node, not_from_false (is_below t one) parts.0) parts.1

-- what comes before an end and what does not
before_onward : (v : List Rel) (other : Option (List Rel)) → IsTrue (is_before_end v other) → (m : List Rel) →
    IsTrue (not (is_before_end m other)) → IsTrue (is_below v m)
before_onward v None before m after = absurd (true≢false (sym after))
before_onward v (Some end) before m after = below_upto v end m before (not-true (is_below m end) after)

before_by : (x v : List Rel) (to : Option (List Rel)) → is_below v x ≡ false → IsTrue (is_before_end v to) → IsTrue (is_before_end x to)
before_by x v None upto before = refl
before_by x v (Some end) upto before = upto_below x v end upto before

-- the worlds among one node: that node, or none
pub data WorldsAt (p : Problem) (v : List Rel) : List (List Rel) → Type 0 where
  none_there : (IsPossibleWorld p v → ⊥) → WorldsAt p v []
  one_there : IsPossibleWorld p v → WorldsAt p v (v ∷ [])

-- one node stands between it and a later place where no node after it does
stands_one : (p : Problem) (v : List Rel) (other : Option (List Rel)) (worlds : List (List Rel)) → IsNode p v → IsTrue (is_before_end v other) →
    ((x : List Rel) → IsNode p x → IsTrue (is_below v x) → IsTrue (is_before_end x other) → ⊥) → WorldsAt p v worlds → StandsBetween p v other (v ∷ []) worlds
stands_one p v other worlds node before none at = record {
  onward = λ m after. not_from_false (is_below m v) (below_apart v m (before_onward v other before m after));
  nodes_are = node_list p v other (v ∷ []) (exact_one (Between (IsNode p) v other) v (node, itself) (λ t w. only t w.0 w.1));
  worlds_are = listing p v other worlds (found worlds at);
}
  where
    itself : IsTrue (is_between v other v)
    itself = between_from v other v (below_itself v) before

    only : (t : List Rel) → IsNode p t → IsTrue (is_between v other t) → t ≡ v
    only t n between =
        let parts = between_parts v other t between in
        elim (below_cases v t) [
          | inl less ↦ absurd (none t n less parts.1)
          | inr (inl same) ↦ sym same
          | inr (inr more) ↦ absurd (true≢false (sym more ∙ parts.0))
        ]

    found : (ws : List (List Rel)) → WorldsAt p v ws → IsExactly (Between (IsPossibleWorld p) v other) ws
    found [] (none_there lacks) =
        exact_none (Between (IsPossibleWorld p) v other) (λ t w. lacks (subst (IsPossibleWorld p) (only t (world_is_node p t w.0) w.1) w.0))
    found (t ∷ []) (one_there world) =
        exact_one (Between (IsPossibleWorld p) v other) v (world, itself) (λ t w. only t (world_is_node p t w.0) w.1)
    found (t ∷ (u ∷ ts)) w = elim w [ ]

-- two ways, the second from where the first ends, are one
stands_join : (p : Problem) (one mid : List Rel) (other : Option (List Rel)) (n₁ n₂ w₁ w₂ : List (List Rel)) →
    StandsBetween p one (Some mid) n₁ w₁ → StandsBetween p mid other n₂ w₂ → StandsBetween p one other (n₁ ++ n₂) (w₁ ++ w₂)
stands_join p one mid other n₁ n₂ w₁ w₂ a b = record {
  onward = λ m after. a.onward m (b.onward m after);
  nodes_are = node_list p one other (n₁ ++ n₂) (exactly_join (IsNode p) one mid other n₁ n₂ low high (noded p one (Some mid) n₁ a.nodes_are) (noded p mid other n₂ b.nodes_are));
  worlds_are = listing p one other (w₁ ++ w₂) (exactly_join (IsPossibleWorld p) one mid other w₁ w₂ low high (listed p one (Some mid) w₁ a.worlds_are) (listed p mid other w₂ b.worlds_are));
}
  where
    low : is_below mid one ≡ false
    low = not-true (is_below mid one) (a.onward mid (not_from_false (is_below mid mid) (below_itself mid)))

    high : IsTrue (is_not_above_end mid other)
    high = by other b.onward
      where
        by : (other : Option (List Rel)) → ((m : List Rel) → IsTrue (not (is_before_end m other)) → IsTrue (not (is_below m mid))) → IsTrue (is_not_above_end mid other)
        by None onward = refl
        by (Some end) onward = onward end (not_from_false (is_below end end) (below_itself end))

passes_join : (p : Problem) (one mid other : Option (List Rel)) (n₁ n₂ w₁ w₂ : List (List Rel)) →
    Passes p one mid n₁ w₁ → Passes p mid other n₂ w₂ → Passes p one other (n₁ ++ n₂) (w₁ ++ w₂)
passes_join p None None other n₁ n₂ w₁ w₂ a b = (b.0, append_none n₁ n₂ a.1 b.1, append_none w₁ w₂ a.2 b.2)
  where
    append_none : (xs ys : List (List Rel)) → xs ≡ [] → ys ≡ [] → xs ++ ys ≡ []
    append_none xs ys e f = ap (λ zs. zs ++ ys) e ∙ f
passes_join p None (Some mid) other n₁ n₂ w₁ w₂ a b = let other_is = a.0 in cc
passes_join p (Some one) None other n₁ n₂ w₁ w₂ a b =
    subst (λ o. StandsBetween p one o (n₁ ++ n₂) (w₁ ++ w₂)) (sym b.0)
    (subst (λ ns. StandsBetween p one None (n₁ ++ ns) (w₁ ++ w₂)) (sym b.1)
    (subst (λ ws. StandsBetween p one None (n₁ ++ []) (w₁ ++ ws)) (sym b.2)
    (subst (λ ns. StandsBetween p one None ns (w₁ ++ [])) (sym (append-nil n₁)) (subst (λ ws. StandsBetween p one None n₁ ws) (sym (append-nil w₁)) a))))
passes_join p (Some one) (Some mid) other n₁ n₂ w₁ w₂ a b = stands_join p one mid other n₁ n₂ w₁ w₂ a b

fell_join : (before mid left : Option ℕ) (a b : ℕ) → FellBy before mid a → FellBy mid left b → FellBy before left (a + b)
fell_join None mid left a b h k = fell_from_none mid left b h k
  where
    fell_from_none : (mid left : Option ℕ) (b : ℕ) → mid ≡ None → FellBy mid left b → left ≡ None
    fell_from_none None left b h k = k
    fell_from_none (Some n) left b h k = cc
fell_join (Some old) None left a b h k = absurd h
fell_join (Some old) (Some mid) None a b h k = absurd k
fell_join (Some old) (Some mid) (Some left) a b h k = omega arith

-- a search that comes from one state to another, and on to a third
pub came_join : (one mid other : SearchState) (before between left : Option ℕ) (worlds more : List (List Rel)) →
    Came one mid before between worlds → Came mid other between left more → Came one other before left (worlds ++ more)
came_join one mid other before between left worlds more a b = record {
  problem = b.problem ∙ a.problem;
  from = b.from ∙ a.from;
  to = b.to ∙ a.to;
  nodes = a.nodes ++ b.nodes;
  passed = passes_join one.problem one.at mid.at other.at a.nodes b.nodes worlds more a.passed (subst (λ p. Passes p mid.at other.at b.nodes more) a.problem b.passed);
  counted = subst (FellBy before left) (sym (length-append a.nodes b.nodes)) (fell_join before between left (length a.nodes) (length b.nodes) a.counted b.counted);
}

pub fell_nowhere : (left : Option ℕ) → FellBy left left 0
fell_nowhere None = refl
fell_nowhere (Some n) = omega arith

-- a search that stays
pub stays_put : (p : Problem) (at : Option (List Rel)) → Passes p at at [] []
stays_put p None = (refl, refl, refl)
stays_put p (Some one) =
    stands_none p one (Some one) (λ m h. h) (λ x node before. true≢false (sym before ∙ not-true (is_below x one) node.1))

-- up to its place nothing is passed
last_none : (p : Problem) (from : List Rel) (to : Option (List Rel)) → ((x : List Rel) → IsNodeFrom p from x → IsTrue (is_before_end x to) → ⊥) →
    Passes p (Some from) (last_place from to) [] []
last_none p from to none = by (is_before_end from to) refl
  where
    by : (b : Bool) → is_before_end from to ≡ b → StandsBetween p from (if b then to else Some from) [] []
    by true e = stands_none p from to (λ m after. not_from_false (is_below m from) (below_apart from m (before_onward from to e m after))) none
    by false e = stays_put p (Some from)

pub passes_first : (p : Problem) (from : List Rel) (to : Option (List Rel)) (m : List Rel) (stage : Stage) → LeadsBy p (IsFrom from) m stage →
    Passes p (Some from) (at_by from to m stage) [] []
passes_first p from to m Start leads = absurd leads
passes_first p from to m Standing leads = by (is_before_end m to) refl
  where
    by : (b : Bool) → is_before_end m to ≡ b → Passes p (Some from) (if b then Some m else last_place from to) [] []
    by true e =
        stands_none p from (Some m) (λ x after. from_there x after (is_below x from) refl)
        (λ x node less. true≢false (sym less ∙ not-true (is_below x m) (leads.least x node.0 node.1)))
      where
        from_there : (x : List Rel) → IsTrue (not (is_below x m)) → (s : Bool) → is_below x from ≡ s → IsTrue (not s)
        from_there x after true less = absurd (true≢false (sym (below_upto x from m less (not-true (is_below m from) leads.kind)) ∙ not-true (is_below x m) after))
        from_there x after false less = refl
    by false e =
        last_none p from to (λ x node before. true≢false (sym (before_by m x to (not-true (is_below x m) (leads.least x node.0 node.1)) before) ∙ e))
passes_first p from to m Past leads = last_none p from to (λ x node before. leads x node.0 node.1)

-- after a visit a walk is placed
pub placed_next : (p : Problem) (from : List Rel) (to : Option (List Rel)) (v : List Rel) (w : Walk) (stage : Stage) → IsStanding p from to v → IsTrue (is_before_end v to) →
    LeadsBy p (IsAfter v) (place w) stage → IsPlacedBy p from to w stage
placed_next p from to v w stage standing before leads = by stage leads
  where
    upto : (x : List Rel) → IsNodeFrom p from x → (IsTrue (is_below v x) → ⊥) → IsTrue (is_before_end x to)
    upto x node not_after = elim (below_cases v x) [
      | inl less ↦ absurd (not_after less)
      | inr (inl same) ↦ subst (λ y. IsTrue (is_before_end y to)) same before
      | inr (inr more) ↦ before_by x v to (below_apart x v more) before
    ]

    from_there : (m : List Rel) → IsTrue (is_below v m) → (s : Bool) → is_below m from ≡ s → IsTrue (not s)
    from_there m after true less = absurd (true≢false (sym (below_chain v m from after less) ∙ not-true (is_below v from) standing.node.1))
    from_there m after false less = refl

    by : (stage : Stage) → LeadsBy p (IsAfter v) (place w) stage → IsPlacedBy p from to w stage
    by Start l = absurd l
    by Standing l = record {
      node = (l.node, from_there (place w) l.kind (is_below (place w) from) refl);
      earlier = λ x node less. upto x node (λ after. true≢false (sym less ∙ not-true (is_below x (place w)) (l.least x node.0 after)));
    }
    by Past l = λ x node. upto x node (λ after. l x node.0 after)

-- and just the visited node is passed
pub passes_next : (p : Problem) (from : List Rel) (to : Option (List Rel)) (v m : List Rel) (stage : Stage) (worlds : List (List Rel)) →
    IsStanding p from to v → IsTrue (is_before_end v to) → WorldsAt p v worlds → LeadsBy p (IsAfter v) m stage →
    Passes p (Some v) (at_by from to m stage) (v ∷ []) worlds
passes_next p from to v m stage worlds standing before at leads = by stage leads
  where
    from_before : IsTrue (is_before_end from to)
    from_before = before_by from v to (not-true (is_below v from) standing.node.1) before

    last : ((x : List Rel) → IsNode p x → IsTrue (is_below v x) → IsTrue (is_before_end x to) → ⊥) → Passes p (Some v) (last_place from to) (v ∷ []) worlds
    last none = subst (λ b. Passes p (Some v) (if b then to else Some from) (v ∷ []) worlds) (sym from_before) (stands_one p v to worlds standing.node.0 before none at)

    by : (stage : Stage) → LeadsBy p (IsAfter v) m stage → Passes p (Some v) (at_by from to m stage) (v ∷ []) worlds
    by Start l = absurd l
    by Standing l = stood (is_before_end m to) refl
      where
        stood : (b : Bool) → is_before_end m to ≡ b → Passes p (Some v) (if b then Some m else last_place from to) (v ∷ []) worlds
        stood true e =
            stands_one p v (Some m) worlds standing.node.0 l.kind
            (λ x node after less. true≢false (sym less ∙ not-true (is_below x m) (l.least x node after))) at
        stood false e = last (λ x node after before_end. true≢false (sym (before_by m x to (not-true (is_below x m) (l.least x node after)) before_end) ∙ e))
    by Past l = last (λ x node after before_end. l x node after)

-- no node that is then passed comes behind the visited one
pub none_behind : (p : Problem) (from : List Rel) (to : Option (List Rel)) (v m : List Rel) (stage : Stage) →
    IsStanding p from to v → IsTrue (is_before_end v to) → LeadsBy p (IsAfter v) m stage →
    (x : List Rel) → IsNode p x → IsTrue (is_before_end x (at_by from to m stage)) → is_below v x ≡ false
none_behind p from to v m stage standing before leads x node passed = case (is_below v x) refl
  where
    from_before : IsTrue (is_before_end from to)
    from_before = before_by from v to (not-true (is_below v from) standing.node.1) before

    last : (IsTrue (is_before_end x to) → ⊥) → IsTrue (is_before_end x (last_place from to)) → ⊥
    last none = subst (λ b. IsTrue (is_before_end x (if b then to else Some from)) → ⊥) (sym from_before) none

    by : IsTrue (is_below v x) → (stage : Stage) → LeadsBy p (IsAfter v) m stage → IsTrue (is_before_end x (at_by from to m stage)) → ⊥
    by after Start l = absurd l
    by after Standing l = stood (is_before_end m to) refl
      where
        stood : (b : Bool) → is_before_end m to ≡ b → IsTrue (is_before_end x (if b then Some m else last_place from to)) → ⊥
        stood true e less = true≢false (sym less ∙ not-true (is_below x m) (l.least x node after))
        stood false e less = last (λ before_end. true≢false (sym (before_by m x to (not-true (is_below x m) (l.least x node after)) before_end) ∙ e)) less
    by after Past l = λ less. l x node after

    case : (b : Bool) → is_below v x ≡ b → is_below v x ≡ false
    case true e = absurd (by e stage leads passed)
    case false e = e

-- after a visit fewer nodes are left
pub fewer_left : (p : Problem) (v m : List Rel) (stage : Stage) → IsNode p v → LeadsBy p (IsAfter v) m stage → left_by p m stage < left_by p v Standing
fewer_left p v m stage node leads = by stage leads
  where
    all : IsExactly (Between (IsNode p) v None) (nodes_between p v None)
    all = nodes_between_exactly p v None

    some_left : (ns : List (List Rel)) → In v ns → 0 < length ns
    some_left [] i = elim i [ ]
    some_left (n ∷ ns) i = omega arith

    by : (stage : Stage) → LeadsBy p (IsAfter v) m stage → left_by p m stage < left_by p v Standing
    by Start l = absurd l
    by Standing l =
        let one : IsExactly (Between (IsNode p) v (Some m)) (v ∷ []) =
        exact_one (Between (IsNode p) v (Some m)) v (node, between_from v (Some m) v (below_itself v) l.kind) (λ t w. only t w.0 w.1) in
        let rest : IsExactly (Between (IsNode p) m None) (nodes_between p m None) = nodes_between_exactly p m None in
        let joined = exactly_join (IsNode p) v m None (v ∷ []) (nodes_between p m None) (below_apart v m l.kind) refl one rest in
        let same = ap length (one_exact (Between (IsNode p) v None) (nodes_between p v None) (v ∷ nodes_between p m None) all joined) in
        omega arith
      where
        only : (t : List Rel) → IsNode p t → IsTrue (is_between v (Some m) t) → t ≡ v
        only t n between =
            let parts = between_parts v (Some m) t between in
            elim (below_cases v t) [
              | inl less ↦ absurd (true≢false (sym parts.1 ∙ not-true (is_below t m) (l.least t n less)))
              | inr (inl same) ↦ sym same
              | inr (inr more) ↦ absurd (true≢false (sym more ∙ parts.0))
            ]
    by Past l = some_left (nodes_between p v None) (all.complete v (node, between_from v None v (below_itself v) refl))

-- the node at which a walk is at its end
pub at_end_standing : (p : Problem) (from : List Rel) (to : Option (List Rel)) (m : List Rel) → IsStanding p from to m → is_before_end m to ≡ false → IsNodeAtEnd p from to (Some m)
at_end_standing p from to m standing after = (standing.node, not_from_false (is_before_end m to) after, standing.earlier)
