-- A listing that is put line by line from a table of all points.
use Rattle.std.proofs.Common.{◌≡◌, ◌≢◌, ℕ, ◌+◌, ◌-◌, ◌^◌, ◌<◌, ◌≤◌, min, not, Bool, true, false, List, [], ◌∷◌, ◌++◌, Option, None, Some, length, map, take, refl, sym, ap, subst, ◌∙◌, arith, IsTrue, inl, inr, ◌⊎◌, append_assoc, append-nil, length-append}
use Rattle.std.specs.Prelude.{flat_map}
use Rattle.std.proofs.Math.Seq.{take-append_seam}
use Rattle.std.proofs.lemmas.List.{map-append, length-map}
use Rattle.rcc5_core.specs.declared.Rel.{Rel}
use Rattle.rcc5_core.specs.Relation.{letter_of}
use Rattle.outer_store.specs.Bytes.{GrownInPart, added}
use Rattle.world_model.specs.Problem.{is_problem}
use Rattle.world_model.specs.Family.{IsPossibleWorld}
use Rattle.world_model.specs.Listing.{is_below, is_before_end}
use Rattle.world_model.specs.Trial.{nodes_between}
use Rattle.world_model.proofs.TrialLaws.{trial_is_right_law}
use Rattle.world_model.proofs.OrderPositions.{below_itself, below_upto}
use Rattle.std.proofs.lemmas.Bool.{true≢false, not-true, not_from_false}
use Rattle.world_search.specs.Searching.{SearchState, FellBy, Came, last_place}
use Rattle.world_search.specs.Steps.{StandsBehind}
use Rattle.world_walk.specs.Ahead.{IsOnward, Lists, ListsBetween, BeginAlike}
use Rattle.world_walk.specs.Tables.{TablesState, IsAtWorld, PassedTold}
use Rattle.world_walk.specs.Ways.{told_table}
use Rattle.listing_run.specs.declared.plan.ListingPlan.{ListingPlan}
use Rattle.listing_run.specs.declared.plan.Stop.{Stop}
use Rattle.listing_run.specs.declared.plan.Stop.TheVariants.{Cut, End}
use Rattle.run_ends.specs.Ends.{world_line}
use Rattle.listing_run.specs.Putting.{IsPutTo, IsPutToStop, IsPutPartly, IsPastAll, AreTablesFor, IsStopBehind}
use Rattle.world_search.proofs.WorldsLeft.{worlds_from, came_fewer}
use Rattle.listing_run.proofs.CutLemmas.{later}
use Rattle.listing_run.proofs.StopLemmas.{upto_endless}
use Rattle.listing_run.proofs.PlaceLemmas.{right_behind, behind_upto, nothing_to_end, nothing_to_node, one_there, told_passed, as_many}
use Rattle.listing_run.proofs.ListingLemmas.{put_nothing, put_one_more, put_no_more, put_end_met, put_stopped, partly_refused}

-- up to where all worlds are put: the place of a listing, or, where it tells a world, right behind that one
abbrev pub put_up_to : Option (List Rel) → List (List Rel) → Option (List Rel)
put_up_to at [] = at
put_up_to at (table ∷ tables) = Some (right_behind table)

-- how far a listing along alive paths has come between two of its worlds: the worlds up to the one that is told are put, and the line is of that one
pub record IsTabled (plan : ListingPlan) (s : TablesState) (line : List ℕ) (old new : Option (List ℕ)) (count : ℕ) (wanted : Option ℕ) : Type 0 where
  pub endless : plan.end ≡ None
  pub problem : s.problem ≡ plan.problem
  pub tells : (s.told ≡ []) ⊎ IsAtWorld s
  pub put : IsPutTo plan (put_up_to s.at s.told) old new count None wanted
  pub some : wanted ≢ Some 0
  pub line_is : line ≡ flat_map world_line s.told

-- a search of a plan, at a place
abbrev searching : ListingPlan → Option (List Rel) → SearchState
searching plan at = record { problem = plan.problem; from = plan.start; to = plan.end; at = at; expects = None }

-- what stands between two places, as what a search passes that counts no nodes
came_by : (plan : ListingPlan) (one other : Option (List Rel)) (worlds : List (List Rel)) → Lists plan.problem one other worlds → Came (searching plan one) (searching plan other) None None worlds
came_by plan None other worlds lists = record { problem = refl; from = refl; to = refl; nodes = []; passed = (lists.0, refl, lists.1); counted = refl }
came_by plan (Some one) other worlds lists = record {
  problem = refl;
  from = refl;
  to = refl;
  nodes = nodes_between plan.problem one other;
  passed = record {
    onward = onward other lists.onward;
    nodes_are = trial_is_right_law.nodes plan.problem one other;
    worlds_are = lists.exactly;
  };
  counted = refl;
}
  where
    onward : (other : Option (List Rel)) → IsOnward one other → (m : List Rel) → IsTrue (not (is_before_end m other)) → IsTrue (not (is_below m one))
    onward None o m h = absurd (true≢false (sym h))
    onward (Some end) o m h = not_from_false (is_below m one) (by (is_below m one) refl)
      where
        by : (b : Bool) → is_below m one ≡ b → is_below m one ≡ false
        by true e = absurd (true≢false (sym (below_upto m one end e (not-true (is_below end one) o)) ∙ not-true (is_below m end) h))
        by false e = e

-- where a call passed the world that was told, no more stands up to the next place
passed_on : (plan : ListingPlan) (s s' : TablesState) → s.problem ≡ plan.problem → (s.told ≡ []) ⊎ IsAtWorld s → PassedTold s s' → Lists plan.problem (put_up_to s.at s.told) s'.at []
passed_on plan s s' same (inl none) passed =
    subst (λ p. Lists p (put_up_to s.at s.told) s'.at []) same
    (subst (λ told. Lists s.problem (put_up_to s.at told) s'.at []) (sym none) (subst (λ told. Lists s.problem s.at s'.at told) none passed.passed))
passed_on plan s s' same (inr at) passed =
    subst (λ p. Lists p (put_up_to s.at s.told) s'.at []) same
    (subst (λ told. Lists s.problem (put_up_to s.at told) s'.at []) (sym at.told)
    (told_passed s.problem at.table s'.at
    (subst (λ told. ListsBetween s.problem at.table s'.at told) at.told (subst (λ o. Lists s.problem o s'.at s.told) at.at passed.passed))))

-- at first nothing is put
pub tabled_first : (plan : ListingPlan) (s : TablesState) (old : Option (List ℕ)) → IsTrue (is_problem plan.problem) → AreTablesFor plan s → IsTabled plan s [] old old 0 plan.worlds
tabled_first plan s old valid are =
    let start : IsPutTo plan (Some plan.start) old old 0 None plan.worlds = subst (λ nodes. IsPutTo plan (Some plan.start) old old 0 nodes plan.worlds) are.uncounted (put_nothing plan old) in
    record {
      endless = are.endless;
      problem = are.begun.problem;
      tells = inl are.begun.untold;
      put =
          subst (λ told. IsPutTo plan (put_up_to s.at told) old old 0 None plan.worlds) (sym are.begun.untold)
          (put_no_more plan valid (searching plan (Some plan.start)) (searching plan s.at) None None plan.worlds old old 0 refl are.wanted start (came_by plan (Some plan.start) s.at [] are.begun.passed) (upto_endless plan s.at are.endless));
      some = are.wanted;
      line_is = ap (flat_map world_line) (sym are.begun.untold);
    }

-- a call puts nothing, and passes just the world that is put already
pub tabled_on : (plan : ListingPlan) (s s' : TablesState) (line : List ℕ) (old mid : Option (List ℕ)) (count : ℕ) (wanted : Option ℕ) → IsTrue (is_problem plan.problem) → IsTabled plan s line old mid count wanted → PassedTold s s' →
    IsPutTo plan s'.at old mid count None wanted
tabled_on plan s s' line old mid count wanted valid is passed =
    put_no_more plan valid (searching plan (put_up_to s.at s.told)) (searching plan s'.at) None None wanted old mid count refl is.some is.put
    (came_by plan (put_up_to s.at s.told) s'.at [] (passed_on plan s s' is.problem is.tells passed)) (upto_endless plan s'.at is.endless)

-- the world that a call met, in the terms of the plan
pub record Meets (plan : ListingPlan) (s : TablesState) (t : List Rel) (old new : Option (List ℕ)) (count : ℕ) (wanted : Option ℕ) : Type 0 where
  pub endless : plan.end ≡ None
  pub problem : s.problem ≡ plan.problem
  pub at : s.at ≡ Some t
  pub world : IsPossibleWorld plan.problem t
  pub put : IsPutTo plan (Some t) old new count None wanted
  pub at_world : IsAtWorld s

pub tabled_met : (plan : ListingPlan) (s s' : TablesState) (line : List ℕ) (old mid : Option (List ℕ)) (count : ℕ) (wanted : Option ℕ) (t : List Rel) → IsTrue (is_problem plan.problem) → IsTabled plan s line old mid count wanted →
    PassedTold s s' → IsAtWorld s' → s'.told ≡ t ∷ [] → Meets plan s' t old mid count wanted
tabled_met plan s s' line old mid count wanted t valid is passed at told =
    let one : at.table ∷ [] ≡ t ∷ [] = sym at.told ∙ told in
    let same : at.table ≡ t = cc in
    let there : s'.at ≡ Some t = at.at ∙ ap Some same in
    record {
      endless = is.endless;
      problem = passed.problem ∙ is.problem;
      at = there;
      world = subst (IsPossibleWorld plan.problem) same (subst (λ p. IsPossibleWorld p at.table) (passed.problem ∙ is.problem) at.world);
      put = subst (λ o. IsPutTo plan o old mid count None wanted) there (tabled_on plan s s' line old mid count wanted valid is passed);
      at_world = at;
    }

-- where nothing ends a plan, all is passed at its end, and no node is named there
past_all : (plan : ListingPlan) (at : Option (List Rel)) → plan.end ≡ None → at ≡ None → IsPastAll (searching plan at) None
past_all plan at endless end = (end ∙ sym (ap (last_place plan.start) endless), λ m from. ap (is_before_end m) endless)

-- at the end all is put
pub tabled_end : (plan : ListingPlan) (s s' : TablesState) (line : List ℕ) (old mid : Option (List ℕ)) (count : ℕ) (wanted : Option ℕ) → IsTrue (is_problem plan.problem) → IsTabled plan s line old mid count wanted → PassedTold s s' →
    s'.at ≡ None → IsPutToStop plan old mid (End None) count
tabled_end plan s s' line old mid count wanted valid is passed end =
    put_end_met plan valid (searching plan (put_up_to s.at s.told)) (searching plan s'.at) None None wanted None old mid count refl refl refl is.some is.put
    (came_by plan (put_up_to s.at s.told) s'.at [] (passed_on plan s s' is.problem is.tells passed)) (past_all plan s'.at is.endless end)

-- a listing stands right behind the world that it put last
stands_behind : (plan : ListingPlan) (t : List Rel) → plan.end ≡ None → StandsBehind (searching plan (Some (right_behind t))) t
stands_behind plan t endless = record {
  below_end = ap (is_before_end t) endless;
  last = λ m from before. not_from_false (is_below t m) (by m before (is_below t m) refl);
}
  where
    by : (m : List Rel) → IsTrue (is_below m (right_behind t)) → (b : Bool) → is_below t m ≡ b → is_below t m ≡ false
    by m before true e = absurd (true≢false (sym before ∙ behind_upto t m e))
    by m before false e = e

came_there : (plan : ListingPlan) (t : List Rel) → IsPossibleWorld plan.problem t → Came (searching plan (Some t)) (searching plan (Some (right_behind t))) None None (t ∷ [])
came_there plan t world = came_by plan (Some t) (Some (right_behind t)) (t ∷ []) (one_there plan.problem t world)

-- the world at a place is put, or only a part of its line
pub tabled_world : (plan : ListingPlan) (t : List Rel) (old mid new : Option (List ℕ)) (count : ℕ) (wanted rest : Option ℕ) → IsTrue (is_problem plan.problem) → plan.end ≡ None → IsPossibleWorld plan.problem t → IsPutTo plan (Some t) old mid count None wanted →
    wanted ≢ Some 0 → FellBy wanted rest 1 → new ≡ added mid (world_line t) → IsPutTo plan (Some (right_behind t)) old new (min (count + 1) (2 ^ 64 - 1)) None rest
tabled_world plan t old mid new count wanted rest valid endless world so_far some fell put =
    put_one_more plan valid (searching plan (Some t)) (searching plan (Some (right_behind t))) None None wanted rest t old mid new count refl refl refl so_far (came_there plan t world) (stands_behind plan t endless) some fell put

pub tabled_partly : (plan : ListingPlan) (t : List Rel) (old mid new : Option (List ℕ)) (count : ℕ) (wanted : Option ℕ) → IsTrue (is_problem plan.problem) → plan.end ≡ None → IsPossibleWorld plan.problem t → IsPutTo plan (Some t) old mid count None wanted →
    wanted ≢ Some 0 → GrownInPart mid new (world_line t) → IsPutPartly plan old new
tabled_partly plan t old mid new count wanted valid endless world so_far some part =
    partly_refused plan valid (searching plan (Some t)) (searching plan (Some (right_behind t))) None None wanted t old mid new count refl refl refl so_far (came_there plan t world) (stands_behind plan t endless) some part

-- fewer worlds are left behind it than behind what was put before
pub tabled_fewer : (plan : ListingPlan) (s s' : TablesState) (line : List ℕ) (old mid : Option (List ℕ)) (count : ℕ) (wanted : Option ℕ) (t : List Rel) → IsTrue (is_problem plan.problem) → IsTabled plan s line old mid count wanted →
    PassedTold s s' → Meets plan s' t old mid count wanted → s'.told ≡ t ∷ [] →
    length (worlds_from plan.problem (put_up_to s'.at s'.told)) < length (worlds_from plan.problem (put_up_to s.at s.told))
tabled_fewer plan s s' line old mid count wanted t valid is passed met told =
    let lists : Lists plan.problem (put_up_to s.at s.told) (Some t) [] = subst (λ o. Lists plan.problem (put_up_to s.at s.told) o []) met.at (passed_on plan s s' is.problem is.tells passed) in
    let some = as_many plan.problem valid (put_up_to s.at s.told) t lists in
    let less = came_fewer plan.problem valid (searching plan (Some t)) (searching plan (Some (right_behind t))) None None t refl (came_there plan t met.world) in
    subst (λ ts. length (worlds_from plan.problem (put_up_to s'.at ts)) < length (worlds_from plan.problem (put_up_to s.at s.told))) (sym told) (omega arith)

-- and the listing has come so far
pub tabled_more : (plan : ListingPlan) (s : TablesState) (t : List Rel) (line : List ℕ) (old mid new : Option (List ℕ)) (count count' : ℕ) (wanted rest : Option ℕ) → IsTrue (is_problem plan.problem) → Meets plan s t old mid count wanted → s.told ≡ t ∷ [] →
    wanted ≢ Some 0 → FellBy wanted rest 1 → new ≡ added mid (world_line t) → count' ≡ min (count + 1) (2 ^ 64 - 1) → line ≡ world_line t → rest ≢ Some 0 → IsTabled plan s line old new count' rest
tabled_more plan s t line old mid new count count' wanted rest valid met told some fell put counted of_line left = record {
  endless = met.endless;
  problem = met.problem;
  tells = inr met.at_world;
  put =
      subst (λ ts. IsPutTo plan (put_up_to s.at ts) old new count' None rest) (sym told)
      (subst (λ n. IsPutTo plan (Some (right_behind t)) old new n None rest) (sym counted) (tabled_world plan t old mid new count wanted rest valid met.endless met.world met.put some fell put));
  some = left;
  line_is = of_line ∙ sym (append-nil (world_line t)) ∙ ap (flat_map world_line) (sym told);
}

-- behind the last world that may be put the listing stops at the least node behind it
pub tabled_stop : (plan : ListingPlan) (t : List Rel) (stop : Stop) (old mid : Option (List ℕ)) (count : ℕ) (wanted : Option ℕ) → plan.end ≡ None → IsPossibleWorld plan.problem t →
    IsPutTo plan (Some (right_behind t)) old mid count None wanted → wanted ≡ Some 0 → IsStopBehind plan.problem t stop → IsPutToStop plan old mid stop count
tabled_stop plan t (Cut node) old mid count wanted endless world so_far spent least =
    let between = nothing_to_node plan.problem t node world least in
    put_stopped plan (searching plan (Some (right_behind t))) (searching plan (Some node)) None wanted (Cut node) old mid count refl refl refl spent so_far (record {
      left = Some 0;
      came = record { problem = refl; from = refl; to = refl; nodes = []; passed = between; counted = refl };
      stands = record {
        node_is = (least.node, later plan.start (right_behind t) (Some node) so_far.up_to.begun (between.onward node (not_from_false (is_below node node) (below_itself node))));
        stands = refl;
        below_end = ap (is_before_end node) endless;
      };
    })
tabled_stop plan t (End None) old mid count wanted endless world so_far spent none =
    put_stopped plan (searching plan (Some (right_behind t))) (searching plan None) None wanted (End None) old mid count refl refl refl spent so_far (record {
      left = Some 0;
      came = record { problem = refl; from = refl; to = refl; nodes = []; passed = nothing_to_end plan.problem t world none.1; counted = refl };
      stands = past_all plan None endless refl;
    })
tabled_stop plan t (End (Some node)) old mid count wanted endless world so_far spent none = absurd (some_none none.0)
  where
    some_none : Some node ≡ None → ⊥
    some_none e = cc

-- the letters that the line of a told world has in common with the next table
pub line_kept : (told : List (List Rel)) (table : List Rel) (kept : ℕ) → BeginAlike (told_table told) table kept → (kept ≤ length table) × (take kept (flat_map world_line told) ≡ map letter_of (take kept table))
line_kept told table kept alike =
    let common = alike.common in
    let long = length-append common alike.second.0 in
    let of_table : take kept table ≡ common = ap (λ m. take kept m) alike.second.1 ∙ ap (λ n. take n (common ++ alike.second.0)) (sym alike.counted) ∙ take-append_seam common alike.second.0 in (
      omega (arith, alike.counted, ap length alike.second.1, long),
      ap (λ n. take n (flat_map world_line told)) (sym alike.counted) ∙ of_line told common alike.first.0 alike.first.1 ∙ ap (map letter_of) (sym of_table),
    )
  where
    of_line : (told : List (List Rel)) (common rest : List Rel) → told_table told ≡ common ++ rest → take (length common) (flat_map world_line told) ≡ map letter_of common
    of_line [] [] rest same = refl
    of_line [] (r ∷ common) rest same = absurd (omega (arith, ap length same))
    of_line (t ∷ ts) common rest same =
        let more : List ℕ = 10 ∷ flat_map world_line ts in
        let whole : flat_map world_line (t ∷ ts) ≡ map letter_of common ++ (map letter_of rest ++ more) =
        append_assoc (map letter_of t) (10 ∷ []) (flat_map world_line ts) ∙ ap (λ m. map letter_of m ++ more) same ∙ ap (λ xs. xs ++ more) (map-append letter_of common rest)
        ∙ append_assoc (map letter_of common) (map letter_of rest) more in
        ap (take (length common)) whole ∙ ap (λ n. take n (map letter_of common ++ (map letter_of rest ++ more))) (sym (length-map common letter_of)) ∙ take-append_seam (map letter_of common) (map letter_of rest ++ more)
