-- The nodes that trial takes for worlds are the possible worlds, and its cut is the cut.
use Rattle.std.proofs.Common.{◌≡◌, ℕ, ◌+◌, Bool, true, false, cond, ◌||◌, ◌⊎◌, inl, inr, List, [], ◌∷◌, ◌++◌, length, refl, sym, ap, ◌∙◌, subst, true≢false, arith, IsTrue, append_assoc, append-nil, length-append, eqb-true, eq-eqb, leb-true, le-leb}
use Rattle.std.specs.Prelude.{◌==◌, filter, Option, Some, None}
use Rattle.std.proofs.lemmas.Bool.{and_parts, and_from, or_cases, or_left, or_right, not_from_false, not-true}
use Rattle.std.proofs.lemmas.List.Elements.{filter-append}
use Rattle.rcc5_core.specs.declared.Rel.{Rel}
use Rattle.world_model.specs.Problem.{Problem, pair_count, is_problem}
use Rattle.world_model.specs.Family.{IsPossibleWorld}
use Rattle.world_model.specs.Listing.{is_below}
use Rattle.world_model.specs.Alive.{problem_at}
use Rattle.world_model.specs.Node.{IsNode, IsNodeFrom, IsReached, IsSpent, IsFirstSpent, IsCut}
use Rattle.world_model.specs.Trial.{alive_by_trial, is_world_by_trial, is_reached, first_spent}
use Rattle.world_model.proofs.Members.{In, here, there, In-filter, from_filter, from_append, In-left, In-right}
use Rattle.world_model.proofs.OrderLists.{IsExactly, Between, one_exact, ascends_filter, ascends_left, ascends_between, stands_before, between_parts, between_from}
use Rattle.world_model.proofs.OrderListings.{listed, listing, noded, node_list}
use Rattle.world_model.proofs.PointPositions.{world_is_full, world_is_alive, alive_is_world, prefix_is_node}
use Rattle.world_model.proofs.TrialPoints.{alive_by_trial-iff}

world_is_node : (p : Problem) (t : List Rel) → IsPossibleWorld p t → IsNode p t
world_is_node p t w = prefix_is_node p t [] (subst (IsPossibleWorld p) (sym (append-nil t)) w)

world_from_trial : (p : Problem) → IsTrue (is_problem p) → (t : List Rel) → IsTrue (is_world_by_trial p t) → IsPossibleWorld p t
world_from_trial p problem t h =
    let parts = and_parts (length t == pair_count p) (alive_by_trial (problem_at p t)) h in
    alive_is_world p problem t (eqb-true (length t) (pair_count p) parts.0) ((alive_by_trial-iff (problem_at p t)).0 parts.1)

trial_from_world : (p : Problem) → IsTrue (is_problem p) → (t : List Rel) → IsPossibleWorld p t → IsTrue (is_world_by_trial p t)
trial_from_world p problem t w =
    let long = world_is_full p t w in
    and_from (length t == pair_count p) (alive_by_trial (problem_at p t)) (eq-eqb (length t) (pair_count p) long)
    ((alive_by_trial-iff (problem_at p t)).1 (world_is_alive p t w))

-- among the nodes between two positions, trial finds the worlds there
pub worlds_exactly : (p : Problem) → IsTrue (is_problem p) → (from : List Rel) (to : Option (List Rel)) (nodes : List (List Rel)) →
    IsExactly (Between (IsNode p) from to) nodes → IsExactly (Between (IsPossibleWorld p) from to) (filter (is_world_by_trial p) nodes)
worlds_exactly p problem from to nodes all = record {
  ascending = ascends_filter (is_world_by_trial p) nodes all.ascending;
  sound = λ t i. let parts = from_filter (is_world_by_trial p) nodes i in (world_from_trial p problem t parts.1, (all.sound t parts.0).1);
  complete = λ t w. In-filter (is_world_by_trial p) (all.complete t (world_is_node p t w.0, w.1)) (trial_from_world p problem t w.0);
}

-- the nodes before one of a list are those between its start and that one
before_one : (p : Problem) (from : List Rel) (before rest : List (List Rel)) (m : List Rel) →
    IsExactly (Between (IsNode p) from None) (before ++ m ∷ rest) → IsExactly (Between (IsNode p) from (Some m)) before
before_one p from before rest m all = record {
  ascending = ascends_left before (m ∷ rest) all.ascending;
  sound = λ t i.
      let node = all.sound t (In-left (m ∷ rest) i) in
      (node.0, between_from from (Some m) t (between_parts from None t node.1).0 (ascends_between before (m ∷ rest) all.ascending i (here refl)));
  complete = λ t w.
      let parts = between_parts from (Some m) t w.1 in
      stands_before before rest m t all.ascending (all.complete t (w.0, between_from from None t parts.0 refl)) parts.1;
}

reached_from : (limit : Option ℕ) (count : ℕ) → is_reached limit count ≡ true → IsReached limit count
reached_from None count h = true≢false (sym h)
reached_from (Some limit) count h = leb-true limit count h

is_reached_from : (limit : Option ℕ) (count : ℕ) → IsReached limit count → is_reached limit count ≡ true
is_reached_from None count h = absurd h
is_reached_from (Some limit) count h = le-leb limit count h

-- whether a budget is used up before a node, by the nodes before it
abbrev is_spent : Problem → Option ℕ → Option ℕ → List (List Rel) → Bool
is_spent p nodes worlds before = is_reached nodes (length before) || is_reached worlds (length (filter (is_world_by_trial p) before))

-- what the walk answers at a node
step : (p : Problem) (from : List Rel) (nodes worlds : Option ℕ) (m : List Rel) (later : Option (List Rel)) (b : Bool) →
    (b ≡ true → IsFirstSpent p from nodes worlds m) → (b ≡ false → IsCut p from nodes worlds later) → IsCut p from nodes worlds (cond b (Some m) later)
step p from nodes worlds m later true now after = now refl
step p from nodes worlds m later false now after = after refl

module _ (p : Problem) (problem : IsTrue (is_problem p)) (from : List Rel) (nodes worlds : Option ℕ) where
  spent_from : (before : List (List Rel)) (m : List Rel) → IsExactly (Between (IsNode p) from (Some m)) before →
      is_spent p nodes worlds before ≡ true → IsSpent p from nodes worlds m
  spent_from before m all h = elim (or_cases (is_reached nodes (length before)) (is_reached worlds (length (filter (is_world_by_trial p) before))) h) [
    | inl enough ↦ inl (record { nodes = before; exactly = node_list p from (Some m) before all; reached = reached_from nodes (length before) enough })
    | inr enough ↦ inr (record {
      worlds = filter (is_world_by_trial p) before;
      exactly = listing p from (Some m) (filter (is_world_by_trial p) before) (worlds_exactly p problem from (Some m) before all);
      reached = reached_from worlds (length (filter (is_world_by_trial p) before)) enough;
    })
  ]

  is_spent_from : (before : List (List Rel)) (m : List Rel) → IsExactly (Between (IsNode p) from (Some m)) before →
      IsSpent p from nodes worlds m → is_spent p nodes worlds before ≡ true
  is_spent_from before m all (inl n) =
      let same = one_exact (Between (IsNode p) from (Some m)) n.nodes before (noded p from (Some m) n.nodes n.exactly) all in
      or_left (is_reached nodes (length before)) (is_reached worlds (length (filter (is_world_by_trial p) before)))
      (is_reached_from nodes (length before) (subst (λ xs. IsReached nodes (length xs)) same n.reached))
  is_spent_from before m all (inr w) =
      let same =
      one_exact (Between (IsPossibleWorld p) from (Some m)) w.worlds (filter (is_world_by_trial p) before)
      (listed p from (Some m) w.worlds w.exactly) (worlds_exactly p problem from (Some m) before all) in
      or_right (is_reached nodes (length before)) (is_reached worlds (length (filter (is_world_by_trial p) before)))
      (is_reached_from worlds (length (filter (is_world_by_trial p) before)) (subst (λ xs. IsReached worlds (length xs)) same w.reached))

  -- a node from the start on is one of the list of all these
  in_all : (all : List (List Rel)) → IsExactly (Between (IsNode p) from None) all → (m : List Rel) → IsNodeFrom p from m → In m all
  in_all all exact m node = exact.complete m (node.0, between_from from None m (not-true (is_below m from) node.1) refl)

  first_is : (before rest : List (List Rel)) (m : List Rel) → IsExactly (Between (IsNode p) from None) (before ++ m ∷ rest) →
      ((other : List Rel) → In other before → IsSpent p from nodes worlds other → ⊥) → is_spent p nodes worlds before ≡ true → IsFirstSpent p from nodes worlds m
  first_is before rest m all unspent h =
      let node = all.sound m (In-right before (here refl)) in
      record {
        node = (node.0, not_from_false (is_below m from) (between_parts from None m node.1).0);
        spent = spent_from before m (before_one p from before rest m all) h;
        first = λ other w less. unspent other (stands_before before rest m other all.ascending (in_all (before ++ m ∷ rest) all other w) less);
      }

  -- one more node
  more_found : (before : List (List Rel)) (m : List Rel) (found : ℕ) → found ≡ length (filter (is_world_by_trial p) before) →
      cond (is_world_by_trial p m) (found + 1) found ≡ length (filter (is_world_by_trial p) (before ++ m ∷ []))
  more_found before m found e =
      by (is_world_by_trial p m) ∙ sym (length-append (filter (is_world_by_trial p) before) (filter (is_world_by_trial p) (m ∷ []))) ∙
      ap length (sym (filter-append (is_world_by_trial p) before (m ∷ [])))
    where
      by : (b : Bool) → cond b (found + 1) found ≡ length (filter (is_world_by_trial p) before) + length (cond b (m ∷ []) [])
      by true = omega arith
      by false = omega arith

  still_unspent : (before rest : List (List Rel)) (m : List Rel) → IsExactly (Between (IsNode p) from None) (before ++ m ∷ rest) →
      ((other : List Rel) → In other before → IsSpent p from nodes worlds other → ⊥) → is_spent p nodes worlds before ≡ false →
      (other : List Rel) → In other before ⊎ In other (m ∷ []) → IsSpent p from nodes worlds other → ⊥
  still_unspent before rest m all unspent h other (inl i) spent = unspent other i spent
  still_unspent before rest m all unspent h other (inr (here e)) spent =
      true≢false (sym (is_spent_from before m (before_one p from before rest m all) (subst (IsSpent p from nodes worlds) e spent)) ∙ h)
  still_unspent before rest m all unspent h other (inr (there i)) spent = elim i [ ]

  -- the first node before which the budget is used up is the cut
  pub walk : (before rest : List (List Rel)) (passed found : ℕ) → passed ≡ length before → found ≡ length (filter (is_world_by_trial p) before) →
      IsExactly (Between (IsNode p) from None) (before ++ rest) → ((other : List Rel) → In other before → IsSpent p from nodes worlds other → ⊥) →
      IsCut p from nodes worlds (first_spent p nodes worlds passed found rest)
  walk before [] passed found e f all unspent =
      λ m node. unspent m (subst (λ xs. In m xs) (append-nil before) (in_all (before ++ []) all m node))
  walk before (m ∷ rest) passed found e f all unspent =
      step p from nodes worlds m (first_spent p nodes worlds (passed + 1) (cond (is_world_by_trial p m) (found + 1) found) rest)
      (is_reached nodes passed || is_reached worlds found) (λ h. first_is before rest m all unspent (sym same ∙ h))
      (λ h.
      walk (before ++ m ∷ []) rest (passed + 1) (cond (is_world_by_trial p m) (found + 1) found)
      (let more = length-append before (m ∷ []) in omega arith) (more_found before m found f)
      (subst (IsExactly (Between (IsNode p) from None)) (sym (append_assoc before (m ∷ []) rest)) all)
      (λ other i. still_unspent before rest m all unspent (sym same ∙ h) other (from_append before i)))
    where
      same : (is_reached nodes passed || is_reached worlds found) ≡ is_spent p nodes worlds before
      same = λ i. is_reached nodes (e i) || is_reached worlds (f i)
