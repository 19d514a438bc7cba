-- What each step of a way leaves.
use Rattle.std.proofs.Common.{◌≡◌, ℕ, ◌<◌, ◌≤◌, ◌+◌, Bool, true, false, ◌⊎◌, inl, inr, List, [], ◌∷◌, ◌++◌, take, drop, length, length-append, append_assoc, append-nil, refl, sym, ap, ◌∙◌, subst, arith}
use Rattle.std.specs.Prelude.{IsTrue, Some, None, Option, Result, Ok, Err, OnOk, OnErr}
use Rattle.std.specs.Option.{option_to_list}
use Rattle.std.proofs.lemmas.Bool.{true≢false, not-true, not_from_false, cases_lt}
use Rattle.std.proofs.lemmas.List.{take-append-le, get_or_append_left, get_or-take, length-take-le}
use Rattle.std.proofs.Math.Seq.{take-append_seam, get_or-append_seam}
use Rattle.rcc5_core.specs.declared.Rel.{Rel}
use Rattle.rcc5_core.specs.declared.RelSet.{RelSet}
use Rattle.rcc5_core.specs.Relation.{rank_of}
use Rattle.rcc5_core.specs.RelationSet.{has, no_rels, first_of, next_of}
use Rattle.world_model.specs.Problem.{Problem, pair_count, is_problem}
use Rattle.world_model.specs.Family.{IsPossibleWorld}
use Rattle.world_model.specs.Listing.{is_below, rel_at, Begins}
use Rattle.world_model.specs.Alive.{problem_at, IsAlive}
use Rattle.world_model.proofs.OrderPositions.{below_itself, below_longer, below_branch}
use Rattle.world_model.proofs.OrderLists.{Between, exactly_from, exactly_join}
use Rattle.world_model.proofs.PointPositions.{alive_is_world}
use Rattle.world_walk.specs.declared.way.Level.{Level}
use Rattle.world_walk.specs.declared.way.Stage.TheVariants.{Standing, Told}
use Rattle.world_walk.specs.declared.way.Way.{Way}
use Rattle.world_walk.specs.Ahead.{IsOnward, Lists, ListsBetween, level_at, IsPast, AreLevels, IsAhead, room}
use Rattle.world_walk.specs.Ways.{problem_of, place, LeadOn, AreNext, IsUnderWay, IsAtTable, IsWay, IsWayBy, at_by, told_by, at_of, left_by, left_of, WentOn}
use Rattle.point_ladder.specs.Ladders.{LadderState, IsAlong}
use Rattle.world_walk.proofs.Paths.{cut_at, turned, turned_length, turned_take, turned_below}
use Rattle.world_model.proofs.Relations.{next_is_in}
use Rattle.world_walk.proofs.Ahead.{goes_in, goes_in_with, turns_off, only_begun}
use Rattle.world_walk.proofs.Between.{listing_of, none_listed, none_inside, goes_along, none_begun, one_begun}
use Rattle.world_walk.proofs.Room.{room_falls, room_some, room_upto}

-- where no relation waits, a way stands at its path
pub place_ready : (w : Way) → w.waiting ≡ None → place w ≡ w.along.path
place_ready w none = ap (λ o. w.along.path ++ option_to_list o) none ∙ append-nil w.along.path

-- a way with another along
abbrev pub with_ladder : Way → LadderState → Way
with_ladder w along = record w { along = along }

-- what begins with a path comes before a later turn of it
begun_before : (m : List Rel) (d : ℕ) (r : Rel) → d < length m → rank_of (rel_at m d) < rank_of r → (t : List Rel) → Begins m t → is_below t (turned m d r) ≡ true
begun_before m d r within less t b =
    let path : t ≡ take d m ++ rel_at m d ∷ (drop (d + 1) m ++ b.0) =
    b.1 ∙ ap (λ xs. xs ++ b.0) (cut_at m d within) ∙ append_assoc (take d m) (rel_at m d ∷ drop (d + 1) m) b.0 in
    subst (λ x. is_below x (turned m d r) ≡ true) (sym path) (below_branch (take d m) (rel_at m d) r (drop (d + 1) m ++ b.0) [] less)

-- the relations at the levels of a path still lead on after a step
leads_longer : (p : Problem) (m more : List Rel) (levels : List Level) → AreLevels m levels → LeadOn p m levels → LeadOn p (m ++ more) levels
leads_longer p m more levels are leads i h rel there =
    let w = are.within i h in
    subst (λ xs. IsAlive (problem_at p (xs ++ rel ∷ []))) (sym (take-append-le (level_at levels i).depth m more (omega arith))) (leads i h rel there)

leads_pushed : (p : Problem) (m more : List Rel) (levels : List Level) (set : RelSet) → AreLevels m levels → LeadOn p m levels →
    ((x : Rel) → has set x ≡ true → IsAlive (problem_at p (m ++ x ∷ []))) → LeadOn p (m ++ more) (levels ++ record { depth = length m; set = set } ∷ [])
leads_pushed p m more levels set are leads each i h rel there = elim (cases_lt i (length levels)) [
  | inl old ↦
      let same : level_at (levels ++ level ∷ []) i ≡ level_at levels i = get_or_append_left levels (level ∷ []) (record { depth = 0; set = no_rels }) i old in
      subst (λ (x : Level). IsAlive (problem_at p (take x.depth (m ++ more) ++ rel ∷ []))) (sym same)
      (leads_longer p m more levels are leads i old rel (subst (λ (x : Level). has x.set rel ≡ true) same there))
  | inr new ↦
      let last : i ≡ length levels = omega (arith, h, length-append levels (level ∷ [])) in
      let same : level_at (levels ++ level ∷ []) i ≡ level = ap (λ k. level_at (levels ++ level ∷ []) k) last ∙ get_or-append_seam levels level [] (record { depth = 0; set = no_rels }) in
      subst (λ (x : Level). IsAlive (problem_at p (take x.depth (m ++ more) ++ rel ∷ []))) (sym same)
      (subst (λ xs. IsAlive (problem_at p (xs ++ rel ∷ []))) (sym (take-append_seam m more)) (each rel (subst (λ (x : Level). has x.set rel ≡ true) same there)))
]
  where
    level : Level
    level = record { depth = length m; set = set }

pub leads_dropped : (p : Problem) (m : List Rel) (levels : List Level) (k : ℕ) → length levels ≡ k + 1 → LeadOn p m levels → LeadOn p m (take k levels)
leads_dropped p m levels k sized leads i h rel there =
    let small : i < k = omega (arith, h, length-take-le k levels (omega arith)) in
    let same : level_at (take k levels) i ≡ level_at levels i = get_or-take k levels i (record { depth = 0; set = no_rels }) small in
    subst (λ (x : Level). IsAlive (problem_at p (take x.depth m ++ rel ∷ []))) (sym same) (leads i (omega arith) rel (subst (λ (x : Level). has x.set rel ≡ true) same there))

leads_turned : (p : Problem) (m : List Rel) (levels : List Level) (k d : ℕ) (r : Rel) → length levels ≡ k + 1 → d ≡ (level_at levels k).depth → AreLevels m levels → LeadOn p m levels → LeadOn p (turned m d r) levels
leads_turned p m levels k d r sized depth are leads i h rel there =
    let within : d < length m = subst (λ n. n < length m) (sym depth) (are.within k (omega arith)) in
    subst (λ xs. IsAlive (problem_at p (xs ++ rel ∷ []))) (sym (turned_take m d (level_at levels i).depth r within (upto (cases_lt i k)))) (leads i h rel there)
  where
    upto : (i < k) ⊎ (k ≤ i) → (level_at levels i).depth ≤ d
    upto (inl small) = let less = are.deeper i k small (omega arith) in omega (arith, less, depth)
    upto (inr big) = let same : i ≡ k = omega arith in subst (λ j. (level_at levels j).depth ≤ d) (sym same) (omega (arith, depth))

-- nothing stands between a place and itself
pub lists_nowhere : (p : Problem) (at : Option (List Rel)) → Lists p at at []
lists_nowhere p None = (refl, refl)
lists_nowhere p (Some m) = record {
  onward = not_from_false (is_below m m) (below_itself m);
  exactly = none_listed p m (Some m) (λ t world h k. true≢false (sym k ∙ h));
}

-- what a turn leaves: a way past all that begin with its path, with less to do
pub record Turned (old new : Way) : Type 0 where
  pub way : IsWay new
  pub past : IsPast (problem_of old) (place old) (at_of new)
  pub less : room (pair_count (problem_of new)) (place new) < room (pair_count (problem_of old)) (place old)

-- a way turns off at the last of some levels, by the next of the relations that are left there
pub record TurnsOff (old new : Way) (levels : List Level) (k : ℕ) (r : Rel) : Type 0 where
  pub sized : length levels ≡ k + 1
  pub ahead : IsAhead (problem_of old) old.along.path levels
  pub leads : LeadOn (problem_of old) old.along.path levels
  pub next : next_of (level_at levels k).set (rel_at old.along.path (level_at levels k).depth) ≡ Some r
  pub moved : new.along ≡ record { problem = problem_of old; path = take (level_at levels k).depth old.along.path }
  pub waiting : new.waiting ≡ Some r
  pub kept : new.levels.items ≡ levels
  pub standing : new.stage ≡ Standing

-- such a way leaves its path
pub turned_way : (old new : Way) (levels : List Level) (k : ℕ) (r : Rel) → IsWay old → IsUnderWay old → old.waiting ≡ None → TurnsOff old new levels k r → Turned old new
turned_way old new levels k r is under ready turn =
    let sized = turn.sized in
    let ahead = turn.ahead in
    let leads = turn.leads in
    let p = problem_of old in
    let m = old.along.path in
    let d = (level_at levels k).depth in
    let here : place old ≡ m = place_ready old ready in
    let within : d < length m = ahead.levels_are.within k (omega arith) in
    let later = next_is_in (level_at levels k).set (rel_at m d) r turn.next in
    let same_p : problem_of new ≡ p = ap (λ l. l.problem) turn.moved in
    let there : place new ≡ turned m d r = (λ i. (turn.moved i).path ++ option_to_list (turn.waiting i)) in
    let long = turned_length m d r within in
    let top : length m ≤ pair_count p = subst (λ xs. length xs ≤ pair_count p) here under.upto in
    let ahead_new = turns_off p m levels k d r sized refl ahead turn.next in
    let alive_new : IsAlive (problem_at p (turned m d r)) = leads k (omega arith) r later.0 in
    let below : IsTrue (is_below m (turned m d r)) = turned_below m d r [] within later.1 in
    let under_new : IsUnderWay new = record {
      ahead = subst (λ q. IsAhead q (place new) new.levels.items) (sym same_p) (subst (λ xs. IsAhead p xs new.levels.items) (sym there) (subst (λ ls. IsAhead p (turned m d r) ls) (sym turn.kept) ahead_new));
      leads = subst (λ q. LeadOn q (place new) new.levels.items) (sym same_p) (subst (λ xs. LeadOn p xs new.levels.items) (sym there)
          (subst (λ ls. LeadOn p (turned m d r) ls) (sym turn.kept) (leads_turned p m levels k d r sized refl ahead.levels_are leads)));
      alive = subst (λ q. IsAlive (problem_at q (place new))) (sym same_p) (subst (λ xs. IsAlive (problem_at p xs)) (sym there) alive_new);
      upto = subst (λ q. length (place new) ≤ pair_count q) (sym same_p) (subst (λ xs. length xs ≤ pair_count p) (sym there) (omega (arith, long, within, top)));
    } in
    record {
      way = record {
        valid = subst (λ q. IsTrue (is_problem q)) (sym same_p) is.valid;
        by_stage = subst (λ s. IsWayBy new s) (sym turn.standing) under_new;
      };
      past =
          let ends : at_of new ≡ Some (turned m d r) = ap (λ s. at_by (place new) s) turn.standing ∙ ap Some there in
          subst (IsPast p (place old)) (sym ends) (subst (λ xs. IsPast p xs (Some (turned m d r))) (sym here) (record {
            before = begun_before m d r within later.1;
            only = λ t world h ahead_of. only_begun p m levels k d r sized refl ahead turn.next t world (not-true (is_below t m) h) ahead_of;
          }));
      less = subst (λ q. room (pair_count q) (place new) < room (pair_count p) (place old)) (sym same_p)
          (subst (λ xs. room (pair_count p) xs < room (pair_count p) (place old)) (sym there)
          (subst (λ xs. room (pair_count p) (turned m d r) < room (pair_count p) xs) (sym here) (room_falls (pair_count p) m (turned m d r) top (omega (arith, long, within, top)) below)));
    }

-- a way without levels is at its end
pub past_way : (old : Way) → IsUnderWay old → old.waiting ≡ None → (levels : List Level) → length levels ≡ 0 → IsAhead (problem_of old) old.along.path levels → IsPast (problem_of old) (place old) None
past_way old under ready levels none ahead =
    subst (λ xs. IsPast (problem_of old) xs None) (sym (place_ready old ready)) (record {
      before = λ t b. refl;
      only = λ t world h end. elim (ahead.all t world h) [
        | inl begins ↦ begins
        | inr branch ↦ let among = branch.number in absurd (omega (arith, branch.among))
      ];
    })

pub some_room : (old : Way) → IsUnderWay old → 0 < room (pair_count (problem_of old)) (place old)
some_room old under = let some = room_some (pair_count (problem_of old)) (place old) under.upto in omega arith

-- a way at an alive prefix that is not full and to which no relation waits to be added, and the relations that lead on from it
pub record IsAtFork (w : Way) (set : RelSet) : Type 0 where
  pub way : IsWay w
  pub standing : w.stage ≡ Standing
  pub ready : w.waiting ≡ None
  pub short : length w.along.path < pair_count (problem_of w)
  pub next : AreNext (problem_of w) w.along.path set

-- it goes on by a relation, which waits
pub record GoesBy (old new : Way) (r : Rel) : Type 0 where
  pub kept : new.along ≡ old.along
  pub waiting : new.waiting ≡ Some r
  pub standing : new.stage ≡ Standing

-- a way that goes on by one of the relations that lead on
pub gone_on : (old new : Way) (set : RelSet) (r : Rel) → IsAtFork old set → GoesBy old new r → has set r ≡ true →
    ((next_of set r ≡ None) × (new.levels.items ≡ old.levels.items)) ⊎ (new.levels.items ≡ old.levels.items ++ record { depth = length old.along.path; set = set } ∷ []) → IsWay new
gone_on old new set r fork goes among levels =
    let p = problem_of old in
    let m = old.along.path in
    let is = fork.way in
    let under = subst (λ s. IsWayBy old s) fork.standing is.by_stage in
    let each = fork.next in
    let short = fork.short in
    let here : place old ≡ m = place_ready old fork.ready in
    let ahead : IsAhead p m old.levels.items = subst (λ xs. IsAhead p xs old.levels.items) here under.ahead in
    let leads : LeadOn p m old.levels.items = subst (λ xs. LeadOn p xs old.levels.items) here under.leads in
    let same_p : problem_of new ≡ p = ap (λ l. l.problem) goes.kept in
    let there : place new ≡ m ++ r ∷ [] = (λ i. (goes.kept i).path ++ option_to_list (goes.waiting i)) in
    let onto = λ (x : Rel) (h : IsAlive (problem_at p (m ++ x ∷ []))). (each x).1 h in
    let alive_new = (each r).0 among in
    let long = length-append m (r ∷ []) in
    let both : IsAhead p (m ++ r ∷ []) new.levels.items × LeadOn p (m ++ r ∷ []) new.levels.items = elim levels [
      | inl same ↦ (
        subst (λ ls. IsAhead p (m ++ r ∷ []) ls) (sym same.1) (goes_in p m old.levels.items set r ahead onto same.0),
        subst (λ ls. LeadOn p (m ++ r ∷ []) ls) (sym same.1) (leads_longer p m (r ∷ []) old.levels.items ahead.levels_are leads),
      )
      | inr more ↦ (
        subst (λ ls. IsAhead p (m ++ r ∷ []) ls) (sym more) (goes_in_with p m old.levels.items set r ahead onto),
        subst (λ ls. LeadOn p (m ++ r ∷ []) ls) (sym more) (leads_pushed p m (r ∷ []) old.levels.items set ahead.levels_are leads (λ x h. (each x).0 h)),
      )
    ] in
    let under_new : IsUnderWay new = record {
      ahead = subst (λ q. IsAhead q (place new) new.levels.items) (sym same_p) (subst (λ xs. IsAhead p xs new.levels.items) (sym there) both.0);
      leads = subst (λ q. LeadOn q (place new) new.levels.items) (sym same_p) (subst (λ xs. LeadOn p xs new.levels.items) (sym there) both.1);
      alive = subst (λ q. IsAlive (problem_at q (place new))) (sym same_p) (subst (λ xs. IsAlive (problem_at p xs)) (sym there) alive_new);
      upto = subst (λ q. length (place new) ≤ pair_count q) (sym same_p) (subst (λ xs. length xs ≤ pair_count p) (sym there) (omega (arith, long, short)));
    } in
    record {
      valid = subst (λ q. IsTrue (is_problem q)) (sym same_p) is.valid;
      by_stage = subst (λ s. IsWayBy new s) (sym goes.standing) under_new;
    }

-- where a ready way stands, and where it stands that goes on by a relation
pub at_ready : (w : Way) → w.stage ≡ Standing → w.waiting ≡ None → at_of w ≡ Some w.along.path
at_ready w stage ready = ap (λ s. at_by (place w) s) stage ∙ ap Some (place_ready w ready)

pub place_on : (old new : Way) (r : Rel) → GoesBy old new r → place new ≡ old.along.path ++ r ∷ []
place_on old new r goes = (λ i. (goes.kept i).path ++ option_to_list (goes.waiting i))

pub at_on : (old new : Way) (r : Rel) → GoesBy old new r → at_of new ≡ Some (old.along.path ++ r ∷ [])
at_on old new r goes = ap (λ s. at_by (place new) s) goes.standing ∙ ap Some (place_on old new r goes)

-- a ready way under way is ahead along its path
pub ahead_of : (w : Way) → IsUnderWay w → w.waiting ≡ None → IsAhead (problem_of w) w.along.path w.levels.items
ahead_of w under ready = subst (λ xs. IsAhead (problem_of w) xs w.levels.items) (place_ready w ready) under.ahead

-- by the first relation that leads on it goes past no world, and has less to do
pub entered_way : (old new : Way) (set : RelSet) (r : Rel) → IsAtFork old set → first_of set ≡ Some r → GoesBy old new r → IsWay new → WentOn old new × (left_of new < left_of old)
entered_way old new set r fork first goes way =
    let p = problem_of old in
    let m = old.along.path in
    let standing = fork.standing in
    let stage = goes.standing in
    let ready = fork.ready in
    let short = fork.short in
    let each = fork.next in
    let under = subst (λ s. IsWayBy old s) standing fork.way.by_stage in
    let here : place old ≡ m = place_ready old ready in
    let same_p : problem_of new ≡ p = ap (λ l. l.problem) goes.kept in
    let there = place_on old new r goes in
    let inside : ListsBetween p m (Some (m ++ r ∷ [])) [] = none_inside p m old.levels.items set r (ahead_of old under ready) (λ x h. (each x).1 h) first short in (
      record {
        problem = same_p;
        way = way;
        passed = subst (λ o. Lists p o (at_of new) []) (sym (at_ready old standing ready)) (subst (λ o. ListsBetween p m o []) (sym (at_on old new r goes)) inside);
        untold = ap (λ s. told_by (place new) s) stage;
      },
      subst (λ s. left_by (problem_of new) (place new) s < left_of old) (sym stage)
          (subst (λ s. room (pair_count (problem_of new)) (place new) < left_by p (place old) s) (sym standing)
          (subst (λ q. room (pair_count q) (place new) < room (pair_count p) (place old)) (sym same_p)
          (subst (λ xs. room (pair_count p) xs < room (pair_count p) (place old)) (sym there)
          (subst (λ xs. room (pair_count p) (m ++ r ∷ []) < room (pair_count p) xs) (sym here)
          (room_falls (pair_count p) m (m ++ r ∷ []) (omega arith) (let long = length-append m (r ∷ []) in omega (arith, long, short)) (below_longer m r [])))))),
    )

-- a way that stays where it stands, but for its levels
pub went_nowhere : (old new : Way) → old.stage ≡ Standing → old.waiting ≡ None → new.along ≡ old.along → new.waiting ≡ None → new.stage ≡ Standing → IsWay new → WentOn old new
went_nowhere old new standing ready kept waiting stage way = record {
  problem = ap (λ l. l.problem) kept;
  way = way;
  passed = subst (λ o. Lists (problem_of old) (at_of old) o []) (at_ready old standing ready ∙ ap (λ l. Some l.path) (sym kept) ∙ sym (at_ready new stage waiting)) (lists_nowhere (problem_of old) (at_of old));
  untold = ap (λ s. told_by (place new) s) stage;
}

-- whether or not there was memory for a level
pub entered : {T E : Type 0} (result : Result T E) (old new : Way) (set : RelSet) (r : Rel) → IsAtFork old set → first_of set ≡ Some r → new.along ≡ old.along → new.stage ≡ Standing → IsWay new →
    OnOk result (new.waiting ≡ Some r) → OnErr result (new.waiting ≡ None) → WentOn old new × OnOk result (left_of new < left_of old)
entered (Ok x) old new set r fork first kept standing way waiting none = entered_way old new set r fork first (record { kept = kept; waiting = waiting; standing = standing }) way
entered (Err e) old new set r fork first kept standing way waiting none = (went_nowhere old new fork.standing fork.ready kept none standing way, tt)

-- where nothing leads on, a turn passes no world
pub turned_none : (old : Way) (set : RelSet) (other : Option (List Rel)) → IsAtFork old set → first_of set ≡ None → IsPast (problem_of old) (place old) other → Lists (problem_of old) (at_of old) other []
turned_none old set other fork none past =
    let p = problem_of old in
    let m = old.along.path in
    subst (λ o. Lists p o other []) (sym (at_ready old fork.standing fork.ready))
    (none_begun p m set other (subst (λ xs. IsPast p xs other) (place_ready old fork.ready) past) (λ x h. (fork.next x).1 h) none fork.short)

-- a told table is the one world that a turn passes
pub world_of : (w : Way) → IsWay w → IsAtTable w → IsPossibleWorld (problem_of w) (place w)
world_of w is at =
    let here : place w ≡ w.along.path = place_ready w at.ready in
    alive_is_world (problem_of w) is.valid (place w) (subst (λ xs. length xs ≡ pair_count (problem_of w)) (sym here) at.full) at.under_way.alive

pub turned_one : (w : Way) (other : Option (List Rel)) → IsWay w → IsAtTable w → IsPast (problem_of w) (place w) other → ListsBetween (problem_of w) (place w) other (place w ∷ [])
turned_one w other is at past =
    one_begun (problem_of w) (place w) other past (world_of w is at) (subst (λ xs. length xs ≡ pair_count (problem_of w)) (sym (place_ready w at.ready)) at.full)

-- a way that goes along the pairs of which one relation is left
pub along_way : (old new : Way) → IsWay old → old.stage ≡ Standing → old.waiting ≡ None → IsAlong old.along new.along → new.waiting ≡ None → new.levels.items ≡ old.levels.items → new.stage ≡ Standing →
    WentOn old new × (left_of new ≤ left_of old)
along_way old new is standing ready along none levels stage =
    let p = problem_of old in
    let m = old.along.path in
    let on = along.rest in
    let under = subst (λ s. IsWayBy old s) standing is.by_stage in
    let here : place old ≡ m = place_ready old ready in
    let there : place new ≡ m ++ on = place_ready new none ∙ along.goes in
    let same_p : problem_of new ≡ p = along.problem in
    let ahead : IsAhead p m old.levels.items = ahead_of old under ready in
    let leads : LeadOn p m old.levels.items = subst (λ xs. LeadOn p xs old.levels.items) here under.leads in
    let gone = goes_along p m on old.levels.items ahead along.only in
    let upto : length (m ++ on) ≤ pair_count p = subst (λ xs. length xs ≤ pair_count p) along.goes along.short in
    let under_new : IsUnderWay new = record {
      ahead = subst (λ q. IsAhead q (place new) new.levels.items) (sym same_p) (subst (λ xs. IsAhead p xs new.levels.items) (sym there) (subst (λ ls. IsAhead p (m ++ on) ls) (sym levels) gone.0));
      leads = subst (λ q. LeadOn q (place new) new.levels.items) (sym same_p) (subst (λ xs. LeadOn p xs new.levels.items) (sym there)
          (subst (λ ls. LeadOn p (m ++ on) ls) (sym levels) (leads_longer p m on old.levels.items ahead.levels_are leads)));
      alive = subst (λ q. IsAlive (problem_at q (place new))) (sym same_p) (subst (λ xs. IsAlive (problem_at p xs)) (sym (place_ready new none)) along.alive);
      upto = subst (λ q. length (place new) ≤ pair_count q) (sym same_p) (subst (λ xs. length xs ≤ pair_count p) (sym there) upto);
    } in (
      record {
        problem = same_p;
        way = record {
          valid = subst (λ q. IsTrue (is_problem q)) (sym same_p) is.valid;
          by_stage = subst (λ s. IsWayBy new s) (sym stage) under_new;
        };
        passed = subst (λ o. Lists p o (at_of new) []) (sym (at_ready old standing ready))
            (subst (λ o. ListsBetween p m o []) (sym (at_ready new stage none ∙ ap Some along.goes)) gone.1);
        untold = ap (λ s. told_by (place new) s) stage;
      },
      subst (λ s. left_by (problem_of new) (place new) s ≤ left_of old) (sym stage)
          (subst (λ s. room (pair_count (problem_of new)) (place new) ≤ left_by p (place old) s) (sym standing)
          (subst (λ q. room (pair_count q) (place new) ≤ room (pair_count p) (place old)) (sym same_p)
          (subst (λ xs. room (pair_count p) xs ≤ room (pair_count p) (place old)) (sym there)
          (subst (λ xs. room (pair_count p) (m ++ on) ≤ room (pair_count p) xs) (sym here) (room_upto (pair_count p) m on upto))))),
    )

-- one stretch after another, the second without worlds
pub lists_on : (p : Problem) (one mid other : Option (List Rel)) (worlds : List (List Rel)) → Lists p one mid worlds → Lists p mid other [] → Lists p one other worlds
lists_on p None mid other worlds a b = (by mid a.0 b, a.1)
  where
    by : (mid : Option (List Rel)) → mid ≡ None → Lists p mid other [] → other ≡ None
    by None same l = l.0
    by (Some x) same l = cc
lists_on p (Some one) None other worlds a b = subst (λ o. ListsBetween p one o worlds) (sym b.0) a
lists_on p (Some one) (Some mid) other worlds a b = record {
  onward = onward other b.onward;
  exactly = subst (λ ws. Rattle.world_model.specs.Listing.IsListing p one other ws) (append-nil worlds) (listing_of p one other (worlds ++ [])
      (exactly_join (IsPossibleWorld p) one mid other worlds [] (not-true (is_below mid one) a.onward) (high other b.onward)
      (exactly_from (Between (IsPossibleWorld p) one (Some mid)) worlds a.exactly.ascending a.exactly.members)
      (exactly_from (Between (IsPossibleWorld p) mid other) [] b.exactly.ascending b.exactly.members)));
}
  where
    high : (other : Option (List Rel)) → IsOnward mid other → IsTrue (Rattle.world_model.specs.Laws.is_not_above_end mid other)
    high None o = refl
    high (Some end) o = o

    onward : (other : Option (List Rel)) → IsOnward mid other → IsOnward one other
    onward None o = tt
    onward (Some end) o = not_from_false (is_below end one) (back (is_below end one) refl)
      where
        back : (b : Bool) → is_below end one ≡ b → is_below end one ≡ false
        back true e = absurd (true≢false (sym (Rattle.world_model.proofs.OrderPositions.below_upto end one mid e (not-true (is_below mid one) a.onward)) ∙ not-true (is_below end mid) o))
        back false e = e

-- a way that stands is under way
pub under : (w : Way) → IsWay w → w.stage ≡ Standing → IsUnderWay w
under w is standing = subst (λ s. IsWayBy w s) standing is.by_stage

-- a way that stands where it stood, with the same levels
pub same_way : (old new : Way) → IsWay old → old.stage ≡ Standing → problem_of new ≡ problem_of old → place new ≡ place old → new.levels.items ≡ old.levels.items → new.stage ≡ old.stage → WentOn old new
same_way old new is standing p here levels stage =
    let was = under old is standing in
    let stands : new.stage ≡ Standing = stage ∙ standing in
    let now : IsUnderWay new = record {
      ahead = subst (λ q. IsAhead q (place new) new.levels.items) (sym p) (subst (λ m. IsAhead (problem_of old) m new.levels.items) (sym here)
          (subst (λ ls. IsAhead (problem_of old) (place old) ls) (sym levels) was.ahead));
      leads = subst (λ q. LeadOn q (place new) new.levels.items) (sym p) (subst (λ m. LeadOn (problem_of old) m new.levels.items) (sym here)
          (subst (λ ls. LeadOn (problem_of old) (place old) ls) (sym levels) was.leads));
      alive = subst (λ q. IsAlive (problem_at q (place new))) (sym p) (subst (λ m. IsAlive (problem_at (problem_of old) m)) (sym here) was.alive);
      upto = subst (λ q. length (place new) ≤ pair_count q) (sym p) (subst (λ m. length m ≤ pair_count (problem_of old)) (sym here) was.upto);
    } in
    record {
      problem = p;
      way = record {
        valid = subst (λ q. IsTrue (is_problem q)) (sym p) is.valid;
        by_stage = subst (λ s. IsWayBy new s) (sym stands) now;
      };
      passed = subst (λ o. Lists (problem_of old) (at_of old) o []) (sym (λ i. at_by (here i) (stage i))) (lists_nowhere (problem_of old) (at_of old));
      untold = ap (λ s. told_by (place new) s) stands;
    }

pub stays : (w : Way) → IsWay w → w.stage ≡ Standing → WentOn w w
stays w is standing = same_way w w is standing refl refl refl refl

-- a way whose table was told is at it
pub at_table : (w : Way) → IsWay w → w.stage ≡ Told → IsAtTable w
at_table w is told = subst (λ s. IsWayBy w s) told is.by_stage

-- what was passed so far, and on to where a way went from there
pub lists_further : (p : Problem) (one : Option (List Rel)) (worlds : List (List Rel)) (old new : Way) → problem_of old ≡ p → Lists p one (at_of old) worlds → WentOn old new → Lists p one (at_of new) worlds
lists_further p one worlds old new same so_far went = lists_on p one (at_of old) (at_of new) worlds so_far (subst (λ q. Lists q (at_of old) (at_of new) []) same went.passed)
