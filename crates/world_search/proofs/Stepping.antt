-- What a turn of a walk leaves, as a step of the search.
use Rattle.std.proofs.Common.{◌≡◌, ℕ, ◌<◌, true, false, not, IsTrue, List, [], ◌∷◌, ◌++◌, refl, sym, ap, ◌∙◌, subst, append-nil}
use Rattle.std.specs.Prelude.{Option, Some, if◌then◌else◌}
use Rattle.std.proofs.lemmas.Bool.{not_from_false}
use Rattle.rcc5_core.specs.declared.Rel.{Rel}
use Rattle.world_model.specs.Problem.{Problem}
use Rattle.world_model.specs.Node.{IsNode}
use Rattle.world_model.specs.Listing.{is_below, is_before_end}
use Rattle.world_search.specs.Searching.{SearchState, Passes, FellBy, Came, last_place}
use Rattle.std.specs.Prelude.{Result, Ok, Err}
use Rattle.std.specs.Result.{IsErrAnd}
use Rattle.world_search.specs.declared.step.Step.{Step}
use Rattle.world_search.specs.Steps.{IsTableStep, IsStepped, StandsBehind}
use Rattle.world_search.specs.Stopping.{IsAtWorld, IsStop}
use Rattle.world_search.specs.declared.step.TableStep.TheVariants.{World as Table, Spent, End}
use Rattle.world_search.specs.declared.walk.Stage.{Stage}
use Rattle.world_search.specs.declared.walk.Stage.TheVariants.{Standing}
use Rattle.world_search.specs.declared.walk.Walk.{Walk}
use Rattle.world_search.specs.Walking.{place, LeadsTo, IsAfter, IsStanding, IsPlacedBy, IsPlaced, at_by, state_of, left_by, nodes_left, waiting, expects_by, expected}
use Rattle.world_search.proofs.Passing.{WorldsAt, one_there, stays_put, fell_nowhere, came_join, passes_next, none_behind, placed_next, fewer_left, at_end_standing}

-- a walk that stands is at its place
pub standing_at : (p : Problem) (from : List Rel) (to : Option (List Rel)) (w : Walk) → w.stage ≡ Standing → IsPlaced p from to w → IsStanding p from to (place w)
standing_at p from to w stage placed = subst (IsPlacedBy p from to w) stage placed

at_standing : (from : List Rel) (to : Option (List Rel)) (m : List Rel) (stage : Stage) → stage ≡ Standing → is_before_end m to ≡ true → at_by from to m stage ≡ Some m
at_standing from to m stage same before = ap (at_by from to m) same ∙ ap (λ b. if b then Some m else last_place from to) before

at_last : (from : List Rel) (to : Option (List Rel)) (m : List Rel) (stage : Stage) → stage ≡ Standing → is_before_end m to ≡ false → at_by from to m stage ≡ last_place from to
at_last from to m stage same after = ap (at_by from to m) same ∙ ap (λ b. if b then Some m else last_place from to) after

-- a walk at the same place
same_at : (from : List Rel) (to : Option (List Rel)) (old new : Walk) → new.stage ≡ old.stage → place new ≡ place old →
    at_by from to (place new) new.stage ≡ at_by from to (place old) old.stage
same_at from to old new stage same = ap (λ m. at_by from to m new.stage) same ∙ ap (at_by from to (place old)) stage

pub came_same : (p : Problem) (from : List Rel) (to : Option (List Rel)) (old new : Walk) (left : Option ℕ) → new.stage ≡ old.stage → place new ≡ place old →
    Came (state_of p from to old) (state_of p from to new) left left []
came_same p from to old new left stage same = record {
  problem = refl;
  from = refl;
  to = refl;
  nodes = [];
  passed =
      subst (λ at. Passes p (at_by from to (place old) old.stage) at [] []) (sym (same_at from to old new stage same)) (stays_put p (at_by from to (place old) old.stage));
  counted = fell_nowhere left;
}

-- what comes next in a log, at a node
pub expected_at : (w : Walk) (node : List Rel) → w.stage ≡ Standing → place w ≡ node → expected w ≡ Some node
expected_at w node stage same = ap (expects_by (place w)) stage ∙ ap (λ m. Some m) same

pub expected_same : (old new : Walk) → new.stage ≡ old.stage → place new ≡ place old → expected new ≡ expected old
expected_same old new stage same = ap (λ m. expects_by m new.stage) same ∙ ap (expects_by (place old)) stage

-- the node at which a walk stands is not below the start
pub not_below_start : (p : Problem) (from : List Rel) (to : Option (List Rel)) (w : Walk) (node : List Rel) → w.stage ≡ Standing → IsPlaced p from to w → node ≡ place w →
    IsTrue (not (is_below node from))
not_below_start p from to w node standing placed is = subst (λ m. IsTrue (not (is_below m from))) (sym is) (standing_at p from to w standing placed).node.1

-- the end, at a node
pub stop_end : (p : Problem) (from : List Rel) (to : Option (List Rel)) (old new : Walk) (left : Option ℕ) (node : List Rel) →
    new.stage ≡ old.stage → place new ≡ place old → old.stage ≡ Standing → IsPlaced p from to old → node ≡ place old → is_before_end node to ≡ false →
    IsStop p from to new left (End (Some node))
stop_end p from to old new left node stage same standing placed is after =
    let past : is_before_end (place old) to ≡ false = subst (λ m. is_before_end m to ≡ false) is after in (
      same_at from to old new stage same ∙ at_last from to (place old) old.stage standing past,
      at_end_standing p from to node (subst (IsStanding p from to) (sym is) (standing_at p from to old standing placed)) after,
      expected_at new node (stage ∙ standing) (same ∙ sym is),
    )

-- the next node, where none may be visited
pub stop_spent : (p : Problem) (from : List Rel) (to : Option (List Rel)) (old new : Walk) (left : Option ℕ) (node : List Rel) →
    new.stage ≡ old.stage → place new ≡ place old → old.stage ≡ Standing → IsPlaced p from to old → node ≡ place old → is_before_end node to ≡ true → left ≡ Some 0 →
    IsStop p from to new left (Spent node)
stop_spent p from to old new left node stage same standing placed is before spent =
    let ahead : is_before_end (place old) to ≡ true = subst (λ m. is_before_end m to ≡ true) is before in (
      spent,
      record {
        node_is = (subst (IsStanding p from to) (sym is) (standing_at p from to old standing placed)).node;
        stands = same_at from to old new stage same ∙ at_standing from to (place old) old.stage standing ahead ∙ ap (λ m. Some m) (sym is);
        below_end = before;
      },
      expected_at new node (stage ∙ standing) (same ∙ sym is),
    )

-- past a visited node
pub came_visit : (p : Problem) (from : List Rel) (to : Option (List Rel)) (old new : Walk) (before left : Option ℕ) (node : List Rel) (worlds : List (List Rel)) →
    old.stage ≡ Standing → IsPlaced p from to old → node ≡ place old → is_before_end node to ≡ true → WorldsAt p node worlds → LeadsTo p (IsAfter node) new →
    FellBy before left 1 → Came (state_of p from to old) (state_of p from to new) before left worlds
came_visit p from to old new before left node worlds standing placed is ahead at leads fell =
    let there : IsStanding p from to node = subst (IsStanding p from to) (sym is) (standing_at p from to old standing placed) in
    let ahead_of : is_before_end (place old) to ≡ true = subst (λ m. is_before_end m to ≡ true) is ahead in
    let stood : at_by from to (place old) old.stage ≡ Some node = at_standing from to (place old) old.stage standing ahead_of ∙ ap (λ m. Some m) (sym is) in
    record {
      problem = refl;
      from = refl;
      to = refl;
      nodes = node ∷ [];
      passed =
          subst (λ at. Passes p at (at_by from to (place new) new.stage) (node ∷ []) worlds) (sym stood)
          (passes_next p from to node (place new) new.stage worlds there ahead at leads);
      counted = fell;
    }

-- right behind a visited node
pub behind_visit : (p : Problem) (from : List Rel) (to : Option (List Rel)) (old new : Walk) (node : List Rel) →
    old.stage ≡ Standing → IsPlaced p from to old → node ≡ place old → is_before_end node to ≡ true → LeadsTo p (IsAfter node) new →
    StandsBehind (state_of p from to new) node
behind_visit p from to old new node standing placed is ahead leads =
    let there : IsStanding p from to node = subst (IsStanding p from to) (sym is) (standing_at p from to old standing placed) in
    record {
      below_end = ahead;
      last = λ m at passed. not_from_false (is_below node m) (none_behind p from to node (place new) new.stage there ahead leads m at.0 passed);
    }

pub placed_visit : (p : Problem) (from : List Rel) (to : Option (List Rel)) (old new : Walk) (node : List Rel) →
    old.stage ≡ Standing → IsPlaced p from to old → node ≡ place old → is_before_end node to ≡ true → LeadsTo p (IsAfter node) new → IsPlaced p from to new
placed_visit p from to old new node standing placed is ahead leads =
    placed_next p from to node new new.stage (subst (IsStanding p from to) (sym is) (standing_at p from to old standing placed)) ahead leads

pub fewer_visit : (p : Problem) (from : List Rel) (to : Option (List Rel)) (old new : Walk) (node : List Rel) →
    old.stage ≡ Standing → IsPlaced p from to old → node ≡ place old → LeadsTo p (IsAfter node) new → nodes_left p new < nodes_left p old
unfolding nodes_left
fewer_visit p from to old new node standing placed is leads =
    let there : IsStanding p from to node = subst (IsStanding p from to) (sym is) (standing_at p from to old standing placed) in
    let same : left_by p node Standing ≡ left_by p (place old) old.stage = ap (λ m. left_by p m Standing) is ∙ ap (left_by p (place old)) (sym standing) in
    subst (λ k. left_by p (place new) new.stage < k) same (fewer_left p node (place new) new.stage there.node.0 leads)

-- a walk at a world has settled
pub place_is : (p : Problem) (to : Option (List Rel)) (w : Walk) (left : Option ℕ) (table : List Rel) → IsAtWorld p to w left table → place w ≡ w.path
place_is p to w left table at = ap (λ next. w.path ++ waiting next) at.none_waits ∙ append-nil w.path

-- the node at which a walk stops at a world
pub node_at : (p : Problem) (from : List Rel) (to : Option (List Rel)) (w : Walk) (left : Option ℕ) (table : List Rel) → IsAtWorld p to w left table →
    IsPlaced p from to w → IsNode p w.path
node_at p from to w left table at placed = subst (IsNode p) (place_is p to w left table at) (standing_at p from to w at.standing placed).node.0

-- where a search came without a world is what an error leaves
pub stepped_err : {T : Type 0} (r : Result Step T) (Q : T → Type 0) (one other : SearchState) (before left : Option ℕ) → IsErrAnd r Q → Came one other before left [] → IsStepped one other before left r
stepped_err (Ok step) Q one other before left h came = absurd h
stepped_err (Err f) Q one other before left h came = came

-- past the world at which a walk stopped
pub step_world : (p : Problem) (from : List Rel) (to : Option (List Rel)) (one : SearchState) (old new : Walk) (first before left : Option ℕ) (table : List Rel) →
    IsAtWorld p to old before table → IsPlaced p from to old → LeadsTo p (IsAfter old.path) new → FellBy before left 1 →
    Came one (state_of p from to old) first before [] → IsTableStep one (state_of p from to new) first left (Table table)
step_world p from to one old new first before left table at placed leads fell came =
    let is : table ≡ place old = sym (place_is p to old before table at ∙ at.path_is) in
    let on : LeadsTo p (IsAfter table) new = subst (λ m. LeadsTo p (IsAfter m) new) at.path_is leads in (
      came_join one (state_of p from to old) (state_of p from to new) first before left [] (table ∷ []) came
          (came_visit p from to old new before left table (table ∷ []) at.standing placed is at.below_end (one_there at.world) on fell),
      behind_visit p from to old new table at.standing placed is at.below_end on,
    )

pub placed_world : (p : Problem) (from : List Rel) (to : Option (List Rel)) (old new : Walk) (left : Option ℕ) (table : List Rel) →
    IsAtWorld p to old left table → IsPlaced p from to old → LeadsTo p (IsAfter old.path) new → IsPlaced p from to new
placed_world p from to old new left table at placed leads =
    let is : table ≡ place old = sym (place_is p to old left table at ∙ at.path_is) in
    placed_visit p from to old new table at.standing placed is at.below_end (subst (λ m. LeadsTo p (IsAfter m) new) at.path_is leads)
