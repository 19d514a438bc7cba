-- A way that starts at a position, and the listing by it.
use Rattle.std.proofs.Common.{◌≡◌, ℕ, ◌<◌, ◌≤◌, ◌+◌, ◌++◌, [], ◌∷◌, List, length, take, drop, false, inl, refl, sym, ap, ◌∙◌, subst, arith}
use Rattle.std.specs.Prelude.{Some, None, Option, Result, Ok, Err, IfOk, IfSome, IsTrue, ◌↔◌}
use Rattle.std.specs.Option.{option_to_list}
use Rattle.std.proofs.lemmas.List.{take_all}
use Rattle.rcc5_core.specs.declared.Rel.{Rel}
use Rattle.rcc5_core.specs.declared.RelSet.{RelSet}
use Rattle.rcc5_core.specs.RelationSet.{has, next_of}
use Rattle.world_model.specs.Problem.{Problem, pairs, pair_count, is_problem}
use Rattle.world_model.specs.Family.{IsPossibleWorld}
use Rattle.world_model.specs.Alive.{problem_at, IsAlive}
use Rattle.world_model.proofs.PointPositions.{world_is_alive, prefix_is_alive}
use Rattle.point_ladder.specs.Ladders.{LadderState, IsBoundOf}
use Rattle.world_walk.specs.declared.way.Level.{Level}
use Rattle.world_walk.specs.declared.way.Stage.TheVariants.{Standing, Told, Past}
use Rattle.world_walk.specs.declared.way.Way.{Way}
use Rattle.world_model.specs.Listing.{rel_at}
use Rattle.world_walk.specs.Ahead.{Lists, ListsBetween, IsPast}
use Rattle.world_walk.specs.Ways.{problem_of, place, IsUnderWay, IsWay, IsWayBy, at_by, at_of, told_by, told_of, HasBegun}
use Rattle.world_walk.specs.Tables.{tables_of, IsWayFor, IsNewListing, IsAtWorld}
use Rattle.world_walk.proofs.Between.{none_listed, none_turned, none_past}
use Rattle.world_walk.proofs.WentOn.{IsAtFork, GoesBy, under, at_on, place_ready, ahead_of, lists_nowhere, at_table, world_of}
use Rattle.world_walk.proofs.Paths.{cut_at}

-- no level
no_level : {G : Type 0} (levels : List Level) (i : ℕ) → levels ≡ [] → i < length levels → G
no_level levels i none h = absurd (omega (arith, h, ap length none))

-- a way that has gone nowhere yet
pub fresh_way : (w : Way) → IsTrue (is_problem (problem_of w)) → w.along.path ≡ [] → w.waiting ≡ None → w.levels.items ≡ [] → w.stage ≡ Standing → IsAlive (problem_at (problem_of w) w.along.path) →
    IsWay w × (place w ≡ [])
fresh_way w valid empty waiting none stage alive =
    let here : place w ≡ [] = (λ i. empty i ++ option_to_list (waiting i)) in
    let under : IsUnderWay w = record {
      ahead = record {
        levels_are = record {
          deeper = λ i j less h. no_level w.levels.items j none h;
          within = λ i h. no_level w.levels.items i none h;
        };
        all = λ t world h. inl (t, sym (ap (λ m. m ++ t) here));
      };
      leads = λ i h rel there. no_level w.levels.items i none h;
      alive = subst (λ m. IsAlive (problem_at (problem_of w) m)) (empty ∙ sym here) alive;
      upto = subst (λ m. length m ≤ pair_count (problem_of w)) (sym here) (omega arith);
    } in
    (record { valid = valid; by_stage = subst (λ s. IsWayBy w s) (sym stage) under }, here)

-- where not even the empty path is alive, there is no world
pub dead_way : (w : Way) (from : List Rel) → IsTrue (is_problem (problem_of w)) → w.along.path ≡ [] → w.stage ≡ Past → (IsAlive (problem_at (problem_of w) w.along.path) → ⊥) → HasBegun (problem_of w) from w
dead_way w from valid empty stage dead = record {
  problem = refl;
  way = record { valid = valid; by_stage = subst (λ s. IsWayBy w s) (sym stage) tt };
  passed = subst (λ o. Lists (problem_of w) (Some from) o []) (sym (ap (λ s. at_by (place w) s) stage)) (record {
    onward = tt;
    exactly = none_listed (problem_of w) from None (λ t world h end. dead (subst (λ m. IsAlive (problem_at (problem_of w) m)) (sym empty) (prefix_is_alive (problem_of w) [] t (world_is_alive (problem_of w) t world))));
  });
  untold = ap (λ s. told_by (place w) s) stage;
}

-- a way that goes on by the next relation after one that does not lead on
pub passed_over : (old new : Way) (set : RelSet) (r next : Rel) (rest : List Rel) → IsAtFork old set → has set r ≡ false → next_of set r ≡ Some next → GoesBy old new next →
    Lists (problem_of old) (Some (old.along.path ++ r ∷ rest)) (at_of new) []
passed_over old new set r next rest fork none turns goes =
    subst (λ o. ListsBetween (problem_of old) (old.along.path ++ r ∷ rest) o []) (sym (at_on old new next goes))
    (none_turned (problem_of old) old.along.path old.levels.items set r next rest (ahead_of old (under old fork.way fork.standing) fork.ready) (λ x h. (fork.next x).1 h) none turns fork.short)

-- or turns off, where there is none
pub turned_over : (old : Way) (set : RelSet) (r : Rel) (rest : List Rel) (other : Option (List Rel)) → IsAtFork old set → has set r ≡ false → next_of set r ≡ None → IsPast (problem_of old) (place old) other →
    Lists (problem_of old) (Some (old.along.path ++ r ∷ rest)) other []
turned_over old set r rest other fork none last past =
    none_past (problem_of old) old.along.path set r rest other (subst (λ xs. IsPast (problem_of old) xs other) (place_ready old fork.ready) past) (λ x h. (fork.next x).1 h) none last fork.short

-- the way is past a position that it left after so many relations
pub begun_past : (p : Problem) (from items : List Rel) (i : ℕ) (old new : Way) → items ≡ from → i < length items → place old ≡ take i from → old.waiting ≡ None → problem_of old ≡ p → problem_of new ≡ problem_of old → IsWay new →
    told_of new ≡ [] → ((rest : List Rel) → Lists (problem_of old) (Some (old.along.path ++ rel_at items i ∷ rest)) (at_of new) []) → HasBegun p from new
begun_past p from items i old new same within there ready was now way untold lists =
    let whole : old.along.path ++ rel_at items i ∷ drop (i + 1) items ≡ from =
    ap (λ m. m ++ rel_at items i ∷ drop (i + 1) items) (sym (place_ready old ready) ∙ there ∙ ap (take i) (sym same)) ∙ sym (cut_at items i within) ∙ same in
    record {
      problem = now ∙ was;
      way = way;
      passed = subst (λ m. Lists p (Some m) (at_of new) []) whole (subst (λ q. Lists q (Some (old.along.path ++ rel_at items i ∷ drop (i + 1) items)) (at_of new) []) was (lists (drop (i + 1) items)));
      untold = untold;
    }

-- or stands there
pub begun_there : (p : Problem) (from items : List Rel) (n : ℕ) (w : Way) → items ≡ from → length items ≤ n → place w ≡ take n from → problem_of w ≡ p → IsWay w → w.stage ≡ Standing → HasBegun p from w
begun_there p from items n w same long there was way stage =
    let here : place w ≡ from = there ∙ take_all n from (subst (λ m. length m ≤ n) same long) in
    record {
      problem = was;
      way = way;
      passed = subst (λ o. Lists p (Some from) o []) (sym (ap (λ s. at_by (place w) s) stage ∙ ap Some here)) (lists_nowhere p (Some from));
      untold = ap (λ s. told_by (place w) s) stage;
    }

-- what stands between two places is the same for problems with the same worlds
pub same_lists : (p q : Problem) → ((t : List Rel) → IsPossibleWorld q t ↔ IsPossibleWorld p t) → (one other : Option (List Rel)) (worlds : List (List Rel)) → Lists q one other worlds → Lists p one other worlds
same_lists p q same None other worlds lists = lists
same_lists p q same (Some one) other worlds lists = record {
  onward = lists.onward;
  exactly = record {
    ascending = lists.exactly.ascending;
    members = λ t. (
      λ c. let m = (lists.exactly.members t).0 c in ((same t).0 m.0, m.1),
      λ w. (lists.exactly.members t).1 ((same t).1 w.0, w.1),
    );
  };
}

-- a way from a position is a new listing of each problem with the same worlds
pub new_listing : (p : Problem) (along : LadderState) (from : List Rel) (w : Way) → IsBoundOf p along → HasBegun along.problem from w → IsWayFor p w × IsNewListing p from (tables_of p w)
new_listing p along from w bound begun =
    let same : (t : List Rel) → IsPossibleWorld (problem_of w) t ↔ IsPossibleWorld p t = subst (λ q. (t : List Rel) → IsPossibleWorld q t ↔ IsPossibleWorld p t) (sym begun.problem) bound.worlds in (
      record { way = begun.way; pairs_are = ap pairs begun.problem ∙ bound.pairs_are; worlds = same },
      record { problem = refl; passed = same_lists p along.problem bound.worlds (Some from) (at_of w) [] begun.passed; untold = begun.untold },
    )

-- where a table is told, it is a world
pub at_world : (p : Problem) (w : Way) → IsWayFor p w → w.stage ≡ Told → IsAtWorld (tables_of p w)
at_world p w is told = record {
  table = place w;
  world = (is.worlds (place w)).0 (world_of w is.way (at_table w is.way told));
  at = ap (λ s. at_by (place w) s) told;
  told = ap (λ s. told_by (place w) s) told;
}

-- a way that goes on is one for the same problem
pub still_for : (p : Problem) (old new : Way) → IsWayFor p old → problem_of new ≡ problem_of old → IsWay new → IsWayFor p new
still_for p old new is same way = record {
  way = way;
  pairs_are = ap pairs same ∙ is.pairs_are;
  worlds = subst (λ q. (t : List Rel) → IsPossibleWorld q t ↔ IsPossibleWorld p t) (sym same) is.worlds;
}

-- what follows where something is found
pub if_found : {X E : Type 0} {P Q : Type 0} (r : Result (Option X) E) → IfOk r (λ found. IfSome found (λ _. P)) → (P → Q) → IfOk r (λ found. IfSome found (λ _. Q))
if_found (Ok None) h on = tt
if_found (Ok (Some x)) h on = on h
if_found (Err e) h on = tt
