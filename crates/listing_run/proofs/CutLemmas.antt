-- How far a listing with a budget has come, from step to step, and where it is cut.
use Rattle.std.proofs.Common.{◌≡◌, ℕ, ◌+◌, ◌<◌, ◌≤◌, Bool, true, false, not, inl, inr, List, [], ◌∷◌, ◌++◌, length, refl, sym, ap, ◌∙◌, subst, arith, IsTrue, append-nil, length-append}
use Rattle.std.specs.Prelude.{Option, Some, None}
use Rattle.std.proofs.lemmas.Bool.{true≢false, not-true, not_from_false}
use Rattle.rcc5_core.specs.declared.Rel.{Rel}
use Rattle.world_model.specs.Problem.{Problem, is_problem}
use Rattle.world_model.specs.Family.{IsPossibleWorld}
use Rattle.world_model.specs.Listing.{is_below, is_before_end, IsListing}
use Rattle.world_model.specs.Laws.{is_not_above_end}
use Rattle.world_model.specs.Node.{IsNode, IsNodeFrom, IsNodeList, IsReached, IsSpent, IsCut}
use Rattle.world_model.specs.Trial.{nodes_between, worlds_between}
use Rattle.world_model.proofs.Members.{In, here, In-right}
use Rattle.world_model.proofs.OrderPositions.{below_itself, below_apart, below_upto}
use Rattle.world_model.proofs.OrderLists.{IsExactly, Between, between_parts, between_from, exactly_join, one_exact}
use Rattle.world_model.proofs.OrderListings.{listed, listing, noded, node_list, listings_join_law}
use Rattle.world_model.proofs.PointPositions.{prefix_is_node}
use Rattle.world_model.proofs.TrialNodes.{nodes_between_exactly}
use Rattle.world_model.proofs.TrialLaws.{trial_is_right_law}
use Rattle.world_search.specs.Searching.{Passes, FellBy}
use Rattle.listing_run.specs.declared.plan.ListingPlan.{ListingPlan}
use Rattle.listing_run.specs.Plans.{LastsTo}
use Rattle.listing_run.specs.Putting.{AreUpTo}
use Rattle.world_search.proofs.WorldsLeft.{nothing_there, not_above}

-- no position is above itself
pub itself : (m : List Rel) → IsTrue (not (is_below m m))
itself m = not_from_false (is_below m m) (below_itself m)

pub up_to_start : (plan : ListingPlan) → AreUpTo plan (Some plan.start) [] []
up_to_start plan = record {
  begun = not_from_false (is_below plan.start plan.start) (below_itself plan.start);
  nodes_are = node_list plan.problem plan.start (Some plan.start) [] (nothing_there (IsNode plan.problem) plan.start);
  worlds_are = listing plan.problem plan.start (Some plan.start) [] (nothing_there (IsPossibleWorld plan.problem) plan.start);
}

pub lasts_start : (plan : ListingPlan) → LastsTo plan (Some plan.start)
lasts_start plan m from less spent = true≢false (sym less ∙ not-true (is_below m plan.start) from.1)

pub later : (start at : List Rel) (other : Option (List Rel)) → IsTrue (not (is_below at start)) → IsTrue (is_not_above_end at other) → IsTrue (is_not_above_end start other)
later start at None low high = refl
later start at (Some end) low high = by (is_below end start) refl
  where
    by : (b : Bool) → is_below end start ≡ b → IsTrue (not (is_below end start))
    by true e = absurd (true≢false (sym (below_upto end start at e (not-true (is_below at start) low)) ∙ not-true (is_below end at) high))
    by false e = not_from_false (is_below end start) e

-- what is passed follows what was
pub up_to_more : (plan : ListingPlan) (at other : Option (List Rel)) (nodes worlds more_nodes more_worlds : List (List Rel)) → AreUpTo plan at nodes worlds
    → Passes plan.problem at other more_nodes more_worlds → AreUpTo plan other (nodes ++ more_nodes) (worlds ++ more_worlds)
up_to_more plan None other nodes worlds more_nodes more_worlds up passes =
    subst (λ at. AreUpTo plan at (nodes ++ more_nodes) (worlds ++ more_worlds)) (sym passes.0)
    (subst (λ ns. AreUpTo plan None (nodes ++ ns) (worlds ++ more_worlds)) (sym passes.1)
    (subst (λ ws. AreUpTo plan None (nodes ++ []) (worlds ++ ws)) (sym passes.2)
    (subst (λ ns. AreUpTo plan None ns (worlds ++ [])) (sym (append-nil nodes))
    (subst (λ ws. AreUpTo plan None nodes ws) (sym (append-nil worlds)) up))))
up_to_more plan (Some at) other nodes worlds more_nodes more_worlds up between =
    let p = plan.problem in
    let start = plan.start in
    let high = not_above p at other more_nodes more_worlds between in
    record {
      begun = later start at other up.begun high;
      nodes_are =
          node_list p start other (nodes ++ more_nodes) (exactly_join (IsNode p) start at other nodes more_nodes (not-true (is_below at start) up.begun) high
          (noded p start (Some at) nodes up.nodes_are) (noded p at other more_nodes between.nodes_are));
      worlds_are = listings_join_law p start at other worlds more_worlds up.begun high up.worlds_are between.worlds_are;
    }

-- what stands before a place is a front of what stands before a later one
front : (W : List Rel → Type 0) (start x : List Rel) (other : Option (List Rel)) (xs rest all : List (List Rel)) → is_below x start ≡ false → IsTrue (is_before_end x other)
    → IsExactly (Between W start (Some x)) xs → IsExactly (Between W x other) rest → IsExactly (Between W start other) all → xs ++ rest ≡ all
front W start x other xs rest all low before a b c = one_exact (Between W start other) (xs ++ rest) all (exactly_join W start x other xs rest low (high other before) a b) c
  where
    high : (other : Option (List Rel)) → IsTrue (is_before_end x other) → IsTrue (is_not_above_end x other)
    high None before = refl
    high (Some end) before = not_from_false (is_below end x) (below_apart x end before)

some_there : {t : List Rel} (ts : List (List Rel)) → In t ts → 1 ≤ length ts
some_there [] i = elim i [ ]
some_there (t ∷ ts) i = omega arith

-- fewer nodes stand before a node that is passed than are passed
fewer_nodes : (plan : ListingPlan) (at : Option (List Rel)) (nodes worlds : List (List Rel)) (m : List Rel) (before : List (List Rel)) → AreUpTo plan at nodes worlds
    → IsNodeFrom plan.problem plan.start m → IsTrue (is_before_end m at) → IsNodeList plan.problem plan.start (Some m) before → length before < length nodes
fewer_nodes plan at nodes worlds m before up from passed exactly =
    let p = plan.problem in
    let rest = nodes_between p m at in
    let rest_are : IsExactly (Between (IsNode p) m at) rest = nodes_between_exactly p m at in
    let low : is_below m plan.start ≡ false = not-true (is_below m plan.start) from.1 in
    let same : before ++ rest ≡ nodes =
    front (IsNode p) plan.start m at before rest nodes low passed (noded p plan.start (Some m) before exactly) rest_are (noded p plan.start at nodes up.nodes_are) in
    let some : 1 ≤ length rest = some_there rest (rest_are.complete m (from.0, between_from m at m (below_itself m) passed)) in
    let long : length (before ++ rest) ≡ length nodes = ap length same in
    omega (arith, length-append before rest)

nodes_last : (limit left : Option ℕ) (count before : ℕ) → FellBy limit left count → before < count → IsReached limit before → ⊥
nodes_last None left count before fell less reached = reached
nodes_last (Some limit) None count before fell less reached = fell
nodes_last (Some limit) (Some left) count before fell less reached = omega arith

-- no more worlds stand before a node that is passed than are passed; and fewer, where one of those is not below it
worlds_front : (plan : ListingPlan) → IsTrue (is_problem plan.problem) → (at : Option (List Rel)) (nodes worlds : List (List Rel)) (m : List Rel) (before : List (List Rel)) → AreUpTo plan at nodes worlds
    → IsNodeFrom plan.problem plan.start m → IsTrue (is_before_end m at) → IsListing plan.problem plan.start (Some m) before
    → before ++ worlds_between plan.problem m at ≡ worlds
worlds_front plan valid at nodes worlds m before up from passed exactly =
    let p = plan.problem in
    front (IsPossibleWorld p) plan.start m at before (worlds_between p m at) worlds (not-true (is_below m plan.start) from.1) passed
    (listed p plan.start (Some m) before exactly) (listed p m at (worlds_between p m at) (trial_is_right_law.worlds p valid m at)) (listed p plan.start at worlds up.worlds_are)

reached_more : (limit : Option ℕ) (few many : ℕ) → few ≤ many → IsReached limit few → IsReached limit many
reached_more None few many less reached = reached
reached_more (Some limit) few many less reached = omega arith

-- past nodes without a world the budget lasts
pub lasts_on : (plan : ListingPlan) → IsTrue (is_problem plan.problem) → (at : Option (List Rel)) (nodes worlds : List (List Rel)) (left : Option ℕ) → AreUpTo plan at nodes worlds
    → FellBy plan.nodes left (length nodes) → (IsReached plan.worlds (length worlds) → ⊥) → LastsTo plan at
lasts_on plan valid at nodes worlds left up fell unreached m from passed (inl spent) =
    nodes_last plan.nodes left (length nodes) (length spent.nodes) fell (fewer_nodes plan at nodes worlds m spent.nodes up from passed spent.exactly) spent.reached
lasts_on plan valid at nodes worlds left up fell unreached m from passed (inr spent) =
    let same = worlds_front plan valid at nodes worlds m spent.worlds up from passed spent.exactly in
    let long : length (spent.worlds ++ worlds_between plan.problem m at) ≡ length worlds = ap length same in
    unreached (reached_more plan.worlds (length spent.worlds) (length worlds) (omega (arith, length-append spent.worlds (worlds_between plan.problem m at))) spent.reached)

-- and past a world, behind which no node is passed
pub lasts_behind : (plan : ListingPlan) → IsTrue (is_problem plan.problem) → (at : Option (List Rel)) (nodes worlds : List (List Rel)) (table : List Rel) (left : Option ℕ)
    → AreUpTo plan at nodes (worlds ++ table ∷ []) → FellBy plan.nodes left (length nodes) → (IsReached plan.worlds (length worlds) → ⊥)
    → ((m : List Rel) → IsNodeFrom plan.problem plan.start m → IsTrue (is_before_end m at) → IsTrue (not (is_below table m))) → LastsTo plan at
lasts_behind plan valid at nodes worlds table left up fell unreached behind m from passed (inl spent) =
    nodes_last plan.nodes left (length nodes) (length spent.nodes) fell (fewer_nodes plan at nodes (worlds ++ table ∷ []) m spent.nodes up from passed spent.exactly) spent.reached
lasts_behind plan valid at nodes worlds table left up fell unreached behind m from passed (inr spent) =
    let p = plan.problem in
    let rest = worlds_between p m at in
    let same : spent.worlds ++ rest ≡ worlds ++ table ∷ [] = worlds_front plan valid at nodes (worlds ++ table ∷ []) m spent.worlds up from passed spent.exactly in
    let all : IsExactly (Between (IsPossibleWorld p) plan.start at) (worlds ++ table ∷ []) = listed p plan.start at (worlds ++ table ∷ []) up.worlds_are in
    let of_table : Between (IsPossibleWorld p) plan.start at table = all.sound table (In-right worlds (here refl)) in
    let rest_are : IsExactly (Between (IsPossibleWorld p) m at) rest = listed p m at rest (trial_is_right_law.worlds p valid m at) in
    let ahead : IsTrue (is_before_end table at) = (between_parts plan.start at table of_table.1).1 in
    let some : 1 ≤ length rest = some_there rest (rest_are.complete table (of_table.0, between_from m at table (not-true (is_below table m) (behind m from passed)) ahead)) in
    let long : length (spent.worlds ++ rest) ≡ length (worlds ++ table ∷ []) = ap length same in
    unreached (reached_more plan.worlds (length spent.worlds) (length worlds) (omega (arith, length-append spent.worlds rest, length-append worlds (table ∷ []))) spent.reached)

-- where it lasts to a node and is used up before it, that is the cut
pub cut_here : (plan : ListingPlan) (node : List Rel) → IsNodeFrom plan.problem plan.start node → LastsTo plan (Some node)
    → IsSpent plan.problem plan.start plan.nodes plan.worlds node → IsCut plan.problem plan.start plan.nodes plan.worlds (Some node)
cut_here plan node from lasts spent = record { node = from; spent = spent; first = lasts }

none_some : (left : Option ℕ) → left ≡ None → left ≡ Some 0 → ⊥
none_some left none some = cc

-- a limit of which nothing is left is reached
pub limit_reached : (limit left : Option ℕ) (count : ℕ) → left ≡ Some 0 → FellBy limit left count → IsReached limit count
limit_reached None left count none fell = absurd (none_some left fell none)
limit_reached (Some limit) None count none fell = absurd fell
limit_reached (Some limit) (Some left) count none fell =
    let zero : left ≡ 0 = cc in
    omega arith

-- and one of which some is left is not
pub limit_unreached : (limit left : Option ℕ) (count : ℕ) → (left ≡ Some 0 → ⊥) → FellBy limit left count → IsReached limit count → ⊥
limit_unreached None left count some fell reached = reached
limit_unreached (Some limit) None count some fell reached = fell
limit_unreached (Some limit) (Some left) count some fell reached =
    let zero : left ≡ 0 = omega arith in
    some (ap (λ n. Some n) zero)

-- a limit that falls twice
pub fell_twice : (limit between left : Option ℕ) (few more all : ℕ) → all ≡ few + more → FellBy limit between few → FellBy between left more → FellBy limit left all
fell_twice None between left few more all sum one other = subst (λ b. FellBy b left more) one other
fell_twice (Some limit) None left few more all sum one other = absurd one
fell_twice (Some limit) (Some between) None few more all sum one other = other
fell_twice (Some limit) (Some between) (Some left) few more all sum one other = omega arith

-- nothing has fallen yet
pub fell_nothing : (limit : Option ℕ) → FellBy limit limit 0
fell_nothing None = refl
fell_nothing (Some limit) = omega arith

-- where the budget is used up, a search that may visit no node passes none
pub none_passed : (before left : Option ℕ) (nodes : List (List Rel)) → before ≡ Some 0 → FellBy before left (length nodes) → nodes ≡ []
none_passed before left [] none fell = refl
none_passed None left (n ∷ ns) none fell = cc
none_passed (Some old) None (n ∷ ns) none fell = absurd fell
none_passed (Some old) (Some left) (n ∷ ns) none fell =
    let zero : old ≡ 0 = cc in
    absurd (omega arith)

-- no world is passed without its node
pub no_world_passed : (p : Problem) (at other : Option (List Rel)) (table : List Rel) → Passes p at other [] (table ∷ []) → ⊥
no_world_passed p None other table passes = nonempty passes.2
  where
    nonempty : table ∷ [] ≡ [] → ⊥
    nonempty e = omega (arith, ap length e)
no_world_passed p (Some at) other table between =
    let all : IsExactly (Between (IsPossibleWorld p) at other) (table ∷ []) = listed p at other (table ∷ []) between.worlds_are in
    let world = all.sound table (here refl) in
    let none : IsExactly (Between (IsNode p) at other) [] = noded p at other [] between.nodes_are in
    elim (none.complete table (prefix_is_node p table [] (subst (IsPossibleWorld p) (sym (append-nil table)) world.0), world.1)) [ ]

-- where no node is passed, the budget lasts as far as before
pub lasts_still : (plan : ListingPlan) (at other : Option (List Rel)) → Passes plan.problem at other [] [] → LastsTo plan at → LastsTo plan other
lasts_still plan None other passes lasts m from passed spent = lasts m from refl spent
lasts_still plan (Some at) other between lasts m from passed spent = by (is_below m at) refl
  where
    by : (b : Bool) → is_below m at ≡ b → ⊥
    by true less = lasts m from less spent
    by false apart =
        let none : IsExactly (Between (IsNode plan.problem) at other) [] = noded plan.problem at other [] between.nodes_are in
        elim (none.complete m (from.0, between_from at other m apart passed)) [ ]
