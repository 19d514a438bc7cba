-- A listing that is put line by line while a search goes on, within a budget.
use Rattle.std.proofs.Common.{◌≡◌, ◌≢◌, ℕ, ◌+◌, ◌-◌, ◌^◌, min, not, Bool, true, false, List, [], ◌∷◌, ◌++◌, Option, None, Some, length, refl, sym, ap, subst, ◌∙◌, arith, IsTrue, append-nil, length-append, inl, inr}
use Rattle.std.specs.Prelude.{flat_map, Result, Ok, Err, OnErr}
use Rattle.std.proofs.lemmas.Grind.{flat_map-append}
use Rattle.std.proofs.lemmas.Bool.{true≢false, not-true, not_from_false}
use Rattle.rcc5_core.specs.declared.Rel.{Rel}
use Rattle.outer_store.specs.Bytes.{GrownInPart, added}
use Rattle.outer_store.proofs.BytesLemmas.{added-added, GrownInPart-whole, GrownInPart-longer, GrownInPart-after}
use Rattle.world_model.specs.Problem.{Problem, is_problem}
use Rattle.world_model.specs.Listing.{is_below, is_before_end, IsListing}
use Rattle.world_model.specs.Laws.{is_not_above_end}
use Rattle.world_model.specs.Node.{IsNodeFrom}
use Rattle.world_model.specs.Trial.{worlds_between, cut_by_trial}
use Rattle.world_model.proofs.OrderListings.{listings_join_law}
use Rattle.world_model.proofs.TrialLaws.{trial_is_right_law}
use Rattle.world_search.specs.Searching.{SearchState, Passes, FellBy, Came, IsNext, last_place, IsNodeAtEnd}
use Rattle.world_search.specs.Steps.{StandsBehind}
use Rattle.world_search.proofs.WorldsLeft.{came_fewer}
use Rattle.listing_run.specs.declared.plan.ListingPlan.{ListingPlan}
use Rattle.listing_run.specs.declared.plan.Stop.{Stop}
use Rattle.listing_run.specs.declared.plan.Stop.TheVariants.{Cut, End}
use Rattle.run_ends.specs.Ends.{world_line}
use Rattle.world_model.specs.Saturated.{count_of}
use Rattle.listing_run.specs.Plans.{LastsTo, IsStopOf, stop_place}
use Rattle.listing_run.specs.Putting.{AreUpTo, IsUpToEnd, IsPutTo, IsPutToStop, IsPutPartly, IsPastAll, StopsAt, IsListingStop}
use Rattle.listing_run.proofs.CutLemmas.{up_to_start, lasts_start, up_to_more, lasts_on, lasts_behind, lasts_still, cut_here, limit_reached, limit_unreached, fell_twice, fell_nothing, none_passed, no_world_passed}
use Rattle.listing_run.proofs.StopLemmas.{listed_to, lasts_end, upto_start, upto_last, upto_below, upto_behind, stop_at}

added-nil : (told : Option (List ℕ)) → told ≡ added told []
added-nil None = refl
added-nil (Some bytes) = ap Some (sym (append-nil bytes))

-- the lines of a front and of one more world
lines_more : (worlds : List (List Rel)) (table : List Rel) → flat_map world_line (worlds ++ table ∷ []) ≡ flat_map world_line worlds ++ world_line table
lines_more worlds table =
    flat_map-append world_line worlds (table ∷ [])
    ∙ ap (λ (line : List ℕ). flat_map world_line worlds ++ line) (append-nil (world_line table))

-- at first nothing is put
pub put_nothing : (plan : ListingPlan) (old : Option (List ℕ)) → IsPutTo plan (Some plan.start) old old 0 plan.nodes plan.worlds
put_nothing plan old = record {
  nodes = [];
  worlds = [];
  up_to = up_to_start plan;
  within = upto_start plan;
  lasts = lasts_start plan;
  put = added-nil old;
  counted = refl;
  nodes_fell = fell_nothing plan.nodes;
  worlds_fell = fell_nothing plan.worlds;
}

-- what a search of the plan passes
passes_of : (plan : ListingPlan) (one other : SearchState) (before left : Option ℕ) (worlds : List (List Rel)) → one.problem ≡ plan.problem → (came : Came one other before left worlds)
    → Passes plan.problem one.at other.at came.nodes worlds
passes_of plan one other before left worlds same came = subst (λ (p : Problem). Passes p one.at other.at came.nodes worlds) same came.passed

-- what is so of the nodes of a plan, for those of its search
nodes_of : (plan : ListingPlan) (one other : SearchState) (before left : Option ℕ) (worlds : List (List Rel)) (P : List Rel → Type 0) → one.problem ≡ plan.problem → one.from ≡ plan.start → Came one other before left worlds
    → ((m : List Rel) → IsNodeFrom other.problem other.from m → P m) → (m : List Rel) → IsNodeFrom plan.problem plan.start m → P m
nodes_of plan one other before left worlds P same start came each m from =
    each m (subst (λ (p : Problem). IsNodeFrom p other.from m) (sym (came.problem ∙ same)) (subst (λ (q : List Rel). IsNodeFrom plan.problem q m) (sym (came.from ∙ start)) from))

-- what a search leaves that passed a world
record WorldPassed (plan : ListingPlan) (at : Option (List Rel)) (left : Option ℕ) (worlds : List (List Rel)) : Type 0 where
  nodes : List (List Rel)
  up_to : AreUpTo plan at nodes worlds
  within : IsUpToEnd plan at
  lasts : LastsTo plan at
  nodes_fell : FellBy plan.nodes left (length nodes)

world_passed : (plan : ListingPlan) → IsTrue (is_problem plan.problem) → (one other : SearchState) (before left wanted : Option ℕ) (table : List Rel) (old mid : Option (List ℕ)) (count : ℕ)
    → one.problem ≡ plan.problem → one.from ≡ plan.start → one.to ≡ plan.end → (so_far : IsPutTo plan one.at old mid count before wanted) → Came one other before left (table ∷ []) → StandsBehind other table
    → wanted ≢ Some 0 → WorldPassed plan other.at left (so_far.worlds ++ table ∷ [])
world_passed plan valid one other before left wanted table old mid count same start ends so_far came behind some =
    let up = up_to_more plan one.at other.at so_far.nodes so_far.worlds came.nodes (table ∷ []) so_far.up_to (passes_of plan one other before left (table ∷ []) same came) in
    let nodes_fell = fell_twice plan.nodes before left (length so_far.nodes) (length came.nodes) (length (so_far.nodes ++ came.nodes)) (length-append so_far.nodes came.nodes) so_far.nodes_fell came.counted in
    let last = nodes_of plan one other before left (table ∷ []) (λ m. IsTrue (is_before_end m other.at) → IsTrue (not (is_below table m))) same start came behind.last in
    record {
      nodes = so_far.nodes ++ came.nodes;
      up_to = up;
      within = upto_behind plan other.at table (subst (λ to. IsTrue (is_before_end table to)) (came.to ∙ ends) behind.below_end) last;
      lasts =
          lasts_behind plan valid other.at (so_far.nodes ++ came.nodes) so_far.worlds table left up nodes_fell (limit_unreached plan.worlds wanted (length so_far.worlds) some so_far.worlds_fell) last;
      nodes_fell = nodes_fell;
    }

-- a further world's line is put
pub put_one_more : (plan : ListingPlan) → IsTrue (is_problem plan.problem) → (one other : SearchState) (before left wanted rest : Option ℕ) (table : List Rel) (old mid new : Option (List ℕ)) (count : ℕ)
    → one.problem ≡ plan.problem → one.from ≡ plan.start → one.to ≡ plan.end → IsPutTo plan one.at old mid count before wanted → Came one other before left (table ∷ []) → StandsBehind other table
    → wanted ≢ Some 0 → FellBy wanted rest 1 → new ≡ added mid (world_line table)
    → IsPutTo plan other.at old new (min (count + 1) (2 ^ 64 - 1)) left rest
put_one_more plan valid one other before left wanted rest table old mid new count same start ends so_far came behind some fell put =
    let passed = world_passed plan valid one other before left wanted table old mid count same start ends so_far came behind some in
    record {
      nodes = passed.nodes;
      worlds = so_far.worlds ++ table ∷ [];
      up_to = passed.up_to;
      within = passed.within;
      lasts = passed.lasts;
      put = put ∙ ap (λ (told : Option (List ℕ)). added told (world_line table)) so_far.put ∙ added-added old (flat_map world_line so_far.worlds) (world_line table)
          ∙ ap (added old) (sym (lines_more so_far.worlds table));
      counted = omega (arith, so_far.counted, length-append so_far.worlds (table ∷ []));
      nodes_fell = passed.nodes_fell;
      worlds_fell = fell_twice plan.worlds wanted rest (length so_far.worlds) 1 (length (so_far.worlds ++ table ∷ [])) (length-append so_far.worlds (table ∷ [])) so_far.worlds_fell fell;
    }

-- nothing more is put where no world was passed
pub put_no_more : (plan : ListingPlan) → IsTrue (is_problem plan.problem) → (one other : SearchState) (before left wanted : Option ℕ) (old mid : Option (List ℕ)) (count : ℕ) → one.problem ≡ plan.problem
    → wanted ≢ Some 0 → IsPutTo plan one.at old mid count before wanted → Came one other before left [] → IsUpToEnd plan other.at → IsPutTo plan other.at old mid count left wanted
put_no_more plan valid one other before left wanted old mid count same some so_far came within =
    let up : AreUpTo plan other.at (so_far.nodes ++ came.nodes) so_far.worlds =
    subst (AreUpTo plan other.at (so_far.nodes ++ came.nodes)) (append-nil so_far.worlds)
    (up_to_more plan one.at other.at so_far.nodes so_far.worlds came.nodes [] so_far.up_to (passes_of plan one other before left [] same came)) in
    let nodes_fell = fell_twice plan.nodes before left (length so_far.nodes) (length came.nodes) (length (so_far.nodes ++ came.nodes)) (length-append so_far.nodes came.nodes) so_far.nodes_fell came.counted in
    record {
      nodes = so_far.nodes ++ came.nodes;
      worlds = so_far.worlds;
      up_to = up;
      within = within;
      lasts = lasts_on plan valid other.at (so_far.nodes ++ came.nodes) so_far.worlds left up nodes_fell (limit_unreached plan.worlds wanted (length so_far.worlds) some so_far.worlds_fell);
      put = so_far.put;
      counted = so_far.counted;
      nodes_fell = nodes_fell;
      worlds_fell = so_far.worlds_fell;
    }

-- the next node of a search of the plan, and its place and its node at the end
next_of : (plan : ListingPlan) (s : SearchState) (node : List Rel) → s.problem ≡ plan.problem → s.from ≡ plan.start → IsNext s node → IsNodeFrom plan.problem plan.start node
next_of plan s node same start next = subst (λ (q : List Rel). IsNodeFrom plan.problem q node) start (subst (λ (p : Problem). IsNodeFrom p s.from node) same next.node_is)

next_below : (plan : ListingPlan) (s : SearchState) (node : List Rel) → s.to ≡ plan.end → IsNext s node → IsTrue (is_before_end node plan.end)
next_below plan s node ends next = subst (λ to. IsTrue (is_before_end node to)) ends next.below_end

last_of : (plan : ListingPlan) (s : SearchState) (node : Option (List Rel)) → s.from ≡ plan.start → s.to ≡ plan.end → IsPastAll s node → s.at ≡ last_place plan.start plan.end
last_of plan s at_end start ends past = past.0 ∙ ap (λ (from : List Rel). last_place from s.to) start ∙ ap (last_place plan.start) ends

node_of : (plan : ListingPlan) (s : SearchState) (node : Option (List Rel)) → s.problem ≡ plan.problem → s.from ≡ plan.start → s.to ≡ plan.end → IsPastAll s node → IsNodeAtEnd plan.problem plan.start plan.end node
node_of plan s node same start ends past =
    subst (λ to. IsNodeAtEnd plan.problem plan.start to node) ends
    (subst (λ (from : List Rel). IsNodeAtEnd plan.problem from s.to node) start (subst (λ (p : Problem). IsNodeAtEnd p s.from s.to node) same past.1))

-- where all below the end is put, it is put to the stop
all_put : (plan : ListingPlan) (at node : Option (List Rel)) (nodes worlds : List (List Rel)) (old mid : Option (List ℕ)) (count : ℕ) → at ≡ last_place plan.start plan.end
    → IsNodeAtEnd plan.problem plan.start plan.end node → AreUpTo plan at nodes worlds → LastsTo plan at → mid ≡ added old (flat_map world_line worlds) → count ≡ count_of worlds → IsPutToStop plan old mid (End node) count
all_put plan at node nodes worlds old mid count is last up lasts put counted =
    let all : AreUpTo plan (last_place plan.start plan.end) nodes worlds = subst (λ place. AreUpTo plan place nodes worlds) is up in
    record {
      worlds = worlds;
      stop_is = (lasts_end plan (subst (LastsTo plan) is lasts), last);
      exactly = listed_to plan.problem plan.start plan.end node worlds last all.worlds_are;
      put = put;
      counted = counted;
    }

-- the limit of nodes is reached
pub put_cut : (plan : ListingPlan) → IsTrue (is_problem plan.problem) → (one other : SearchState) (before left wanted : Option ℕ) (node : List Rel) (old mid : Option (List ℕ)) (count : ℕ)
    → one.problem ≡ plan.problem → one.from ≡ plan.start → one.to ≡ plan.end → wanted ≢ Some 0 → IsPutTo plan one.at old mid count before wanted → Came one other before left [] → left ≡ Some 0 → IsNext other node
    → IsPutToStop plan old mid (Cut node) count
put_cut plan valid one other before left wanted node old mid count same start ends some so_far came none next =
    let below = next_below plan other node (came.to ∙ ends) next in
    let now = put_no_more plan valid one other before left wanted old mid count same some so_far came (subst (IsUpToEnd plan) (sym next.stands) (upto_below plan node below)) in
    let up : AreUpTo plan (Some node) now.nodes now.worlds = subst (λ at. AreUpTo plan at now.nodes now.worlds) next.stands now.up_to in
    record {
      worlds = now.worlds;
      stop_is = (
        cut_here plan node (next_of plan other node (came.problem ∙ same) (came.from ∙ start) next) (subst (LastsTo plan) next.stands now.lasts)
            (inl (record { nodes = now.nodes; exactly = up.nodes_are; reached = limit_reached plan.nodes left (length now.nodes) none now.nodes_fell })),
        below,
      );
      exactly = up.worlds_are;
      put = now.put;
      counted = now.counted;
    }

-- the end is reached
pub put_end_met : (plan : ListingPlan) → IsTrue (is_problem plan.problem) → (one other : SearchState) (before left wanted : Option ℕ) (node : Option (List Rel)) (old mid : Option (List ℕ)) (count : ℕ)
    → one.problem ≡ plan.problem → one.from ≡ plan.start → one.to ≡ plan.end → wanted ≢ Some 0 → IsPutTo plan one.at old mid count before wanted → Came one other before left [] → IsPastAll other node
    → IsPutToStop plan old mid (End node) count
put_end_met plan valid one other before left wanted node old mid count same start ends some so_far came past =
    let is = last_of plan other node (came.from ∙ start) (came.to ∙ ends) past in
    let now = put_no_more plan valid one other before left wanted old mid count same some so_far came (subst (IsUpToEnd plan) (sym is) (upto_last plan)) in
    all_put plan other.at node now.nodes now.worlds old mid count is (node_of plan other node (came.problem ∙ same) (came.from ∙ start) (came.to ∙ ends) past) now.up_to now.lasts now.put now.counted

-- the limit of worlds is reached
pub put_stopped : (plan : ListingPlan) (one other : SearchState) (before wanted : Option ℕ) (stop : Stop) (old mid : Option (List ℕ)) (count : ℕ)
    → one.problem ≡ plan.problem → one.from ≡ plan.start → one.to ≡ plan.end → wanted ≡ Some 0 → IsPutTo plan one.at old mid count before wanted → IsListingStop one other stop
    → IsPutToStop plan old mid stop count
put_stopped plan one other before wanted stop old mid count same start ends none so_far stopped =
    let came = stopped.came in
    let empty : came.nodes ≡ [] = none_passed (Some 0) stopped.left came.nodes refl came.counted in
    let passes : Passes plan.problem one.at other.at [] [] = subst (λ ns. Passes plan.problem one.at other.at ns []) empty (passes_of plan one other (Some 0) stopped.left [] same came) in
    let up : AreUpTo plan other.at so_far.nodes so_far.worlds =
    subst (λ ns. AreUpTo plan other.at ns so_far.worlds) (append-nil so_far.nodes)
    (subst (λ ws. AreUpTo plan other.at (so_far.nodes ++ []) ws) (append-nil so_far.worlds) (up_to_more plan one.at other.at so_far.nodes so_far.worlds [] [] so_far.up_to passes)) in
    by stop stopped.stands up (lasts_still plan one.at other.at passes so_far.lasts)
  where
    by : (stop : Stop) → StopsAt other stop → AreUpTo plan other.at so_far.nodes so_far.worlds → LastsTo plan other.at → IsPutToStop plan old mid stop count
    by (Cut node) stands up lasts =
        let all : AreUpTo plan (Some node) so_far.nodes so_far.worlds = subst (λ at. AreUpTo plan at so_far.nodes so_far.worlds) stands.stands up in
        record {
          worlds = so_far.worlds;
          stop_is = (
            cut_here plan node (next_of plan other node (stopped.came.problem ∙ same) (stopped.came.from ∙ start) stands) (subst (LastsTo plan) stands.stands lasts)
                (inr (record { worlds = so_far.worlds; exactly = all.worlds_are; reached = limit_reached plan.worlds wanted (length so_far.worlds) none so_far.worlds_fell })),
            next_below plan other node (stopped.came.to ∙ ends) stands,
          );
          exactly = all.worlds_are;
          put = so_far.put;
          counted = so_far.counted;
        }
    by (End node) past up lasts =
        all_put plan other.at node so_far.nodes so_far.worlds old mid count (last_of plan other node (stopped.came.from ∙ start) (stopped.came.to ∙ ends) past)
        (node_of plan other node (stopped.came.problem ∙ same) (stopped.came.from ∙ start) (stopped.came.to ∙ ends) past) up lasts so_far.put so_far.counted

-- a listing goes on to its stop, which is not before where the budget lasts to
record GoesOn (plan : ListingPlan) (worlds : List (List Rel)) : Type 0 where
  stop : Stop
  more : List (List Rel)
  stop_is : IsStopOf plan stop
  exactly : IsListing plan.problem plan.start (stop_place stop) (worlds ++ more)

goes_on : (plan : ListingPlan) → IsTrue (is_problem plan.problem) → (at : Option (List Rel)) (nodes worlds : List (List Rel)) → AreUpTo plan at nodes worlds → IsUpToEnd plan at → LastsTo plan at → GoesOn plan worlds
goes_on plan valid at nodes worlds up within lasts =
    let found = stop_at plan (cut_by_trial plan.problem plan.start plan.nodes plan.worlds) (trial_is_right_law.cut plan.problem valid plan.start plan.nodes plan.worlds) in
    by at up within lasts found.0 found.1
  where
    p : Problem
    p = plan.problem

    by : (at : Option (List Rel)) → AreUpTo plan at nodes worlds → IsUpToEnd plan at → LastsTo plan at → (stop : Stop) → IsStopOf plan stop → GoesOn plan worlds
    by None up within lasts (Cut node) is = absurd (lasts node is.0.node refl is.0.spent)
    by None up within lasts (End None) is = record { stop = End None; more = []; stop_is = is; exactly = subst (IsListing p plan.start None) (sym (append-nil worlds)) up.worlds_are }
    by None up within lasts (End (Some node)) is = absurd (true≢false (sym (within node is.1.0 refl) ∙ not-true (is_before_end node plan.end) is.1.1))
    by (Some at) up within lasts stop is = record {
      stop = stop;
      more = worlds_between p at (stop_place stop);
      stop_is = is;
      exactly = listings_join_law p plan.start at (stop_place stop) worlds (worlds_between p at (stop_place stop)) up.begun (onward stop is) up.worlds_are (trial_is_right_law.worlds p valid at (stop_place stop));
    }
      where
        ahead : (node : List Rel) → (IsTrue (is_below node at) → ⊥) → (b : Bool) → is_below node at ≡ b → IsTrue (not (is_below node at))
        ahead node apart true e = absurd (apart e)
        ahead node apart false e = not_from_false (is_below node at) e

        onward : (stop : Stop) → IsStopOf plan stop → IsTrue (is_not_above_end at (stop_place stop))
        onward (Cut node) is = ahead node (λ e. lasts node is.0.node e is.0.spent) (is_below node at) refl
        onward (End None) is = refl
        onward (End (Some node)) is = ahead node (λ e. true≢false (sym (within node is.1.0 e) ∙ not-true (is_before_end node plan.end) is.1.1)) (is_below node at) refl

-- the lines of a front are a first part of those of the whole
front_put : (plan : ListingPlan) (worlds : List (List Rel)) (old new : Option (List ℕ)) → GoesOn plan worlds → GrownInPart old new (flat_map world_line worlds) → IsPutPartly plan old new
front_put plan worlds old new on part = record {
  stop = on.stop;
  worlds = worlds ++ on.more;
  stop_is = on.stop_is;
  exactly = on.exactly;
  part = subst (GrownInPart old new) (sym (flat_map-append world_line worlds on.more)) (GrownInPart-longer old new (flat_map world_line worlds) (flat_map world_line on.more) part);
}

-- lines that are put are a first part of themselves
pub grown_whole : (old new : Option (List ℕ)) (piece : List ℕ) → new ≡ added old piece → GrownInPart old new piece
grown_whole old new piece put = subst (GrownInPart old new) (append-nil piece) (GrownInPart-whole old new piece [] put)

-- what is put when memory is wanting for the next step
pub partly_so_far : (plan : ListingPlan) → IsTrue (is_problem plan.problem) → (at : Option (List Rel)) (old mid : Option (List ℕ)) (count : ℕ) (left wanted : Option ℕ)
    → IsPutTo plan at old mid count left wanted → IsPutPartly plan old mid
partly_so_far plan valid at old mid count left wanted so_far =
    front_put plan so_far.worlds old mid (goes_on plan valid at so_far.nodes so_far.worlds so_far.up_to so_far.within so_far.lasts)
    (grown_whole old mid (flat_map world_line so_far.worlds) so_far.put)

-- what is put when a line is refused: the search has passed its world
pub partly_refused : (plan : ListingPlan) → IsTrue (is_problem plan.problem) → (one other : SearchState) (before left wanted : Option ℕ) (table : List Rel) (old mid new : Option (List ℕ)) (count : ℕ)
    → one.problem ≡ plan.problem → one.from ≡ plan.start → one.to ≡ plan.end → IsPutTo plan one.at old mid count before wanted → Came one other before left (table ∷ []) → StandsBehind other table
    → wanted ≢ Some 0 → GrownInPart mid new (world_line table) → IsPutPartly plan old new
partly_refused plan valid one other before left wanted table old mid new count same start ends so_far came behind some part =
    let passed = world_passed plan valid one other before left wanted table old mid count same start ends so_far came behind some in
    front_put plan (so_far.worlds ++ table ∷ []) old new (goes_on plan valid other.at passed.nodes (so_far.worlds ++ table ∷ []) passed.up_to passed.within passed.lasts)
    (subst (GrownInPart old new) (sym (lines_more so_far.worlds table)) (GrownInPart-after old mid new (flat_map world_line so_far.worlds) (world_line table) so_far.put part))

-- before the first step nothing is put
pub partly_nothing : (plan : ListingPlan) → IsTrue (is_problem plan.problem) → (old : Option (List ℕ)) → IsPutPartly plan old old
partly_nothing plan valid old = partly_so_far plan valid (Some plan.start) old old 0 plan.nodes plan.worlds (put_nothing plan old)

-- a search that may visit no node finds no world
pub stop_world : (one other : SearchState) (left : Option ℕ) (table : List Rel) → Came one other (Some 0) left (table ∷ []) → ⊥
stop_world one other left table came =
    let empty : came.nodes ≡ [] = none_passed (Some 0) left came.nodes refl came.counted in
    no_world_passed one.problem one.at other.at table (subst (λ ns. Passes one.problem one.at other.at ns (table ∷ [])) empty came.passed)

pub stop_node : (one other : SearchState) (left : Option ℕ) (node : List Rel) → Came one other (Some 0) left [] → IsNext other node → IsListingStop one other (Cut node)
stop_node one other left node came next = record { left = left; came = came; stands = next }

pub stop_end : (one other : SearchState) (left : Option ℕ) (node : Option (List Rel)) → Came one other (Some 0) left [] → IsPastAll other node → IsListingStop one other (End node)
stop_end one other left at_end came past = record { left = left; came = came; stands = past }

pub ruleset stop_rules = (stop_node, stop_end)

-- what holds anyhow holds after a refusal
pub if_refused : {T E : Type 0} (r : Result T E) (fact : Type 0) → fact → OnErr r fact
if_refused (Ok x) fact h = tt
if_refused (Err e) fact h = h

pub ruleset world_rules = (put_nothing, put_one_more, put_no_more, put_cut, put_end_met, put_stopped, came_fewer)
