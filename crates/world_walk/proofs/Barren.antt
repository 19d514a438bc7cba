-- What a retreat leaves, from a path with which no world begins.
use Rattle.std.proofs.Common.{◌≡◌, ℕ, ◌≤◌, ◌+◌, List, [], ◌∷◌, ◌++◌, take, drop, length, append_assoc, append-nil, sym, ap, ◌∙◌, subst}
use Rattle.std.specs.Prelude.{None, Option}
use Rattle.std.specs.Option.{option_to_list}
use Rattle.std.proofs.lemmas.Bool.{not_from_false}
use Rattle.std.proofs.lemmas.List.{take-take, take-append-drop}
use Rattle.rcc5_core.specs.declared.Rel.{Rel}
use Rattle.rcc5_core.specs.declared.RelSet.{RelSet}
use Rattle.world_model.specs.Problem.{Problem}
use Rattle.world_model.specs.Family.{IsPossibleWorld}
use Rattle.world_model.specs.Listing.{is_below}
use Rattle.point_ladder.specs.Ladders.{BeginsNone}
use Rattle.world_walk.specs.declared.way.Level.{Level}
use Rattle.world_walk.specs.declared.way.Stage.TheVariants.{Standing}
use Rattle.world_walk.specs.declared.way.Way.{Way}
use Rattle.world_walk.specs.Ahead.{Lists, ListsBetween, level_at, IsPast, Leaves, IsAhead}
use Rattle.world_walk.specs.Ways.{problem_of, place, IsWay, at_of, told_of, WentOn}
use Rattle.world_walk.proofs.Ahead.{drops_dead}
use Rattle.world_walk.proofs.Between.{onward_of, none_listed}
use Rattle.world_walk.proofs.WentOn.{place_ready, at_ready}

-- no world begins with a path, where none begins with its first relations
pub barren_longer : (p : Problem) (m : List Rel) (n : ℕ) → BeginsNone p (take n m) → BeginsNone p m
barren_longer p m n none rest world =
    none (drop n m ++ rest) (subst (IsPossibleWorld p) (ap (λ xs. xs ++ rest) (sym (take-append-drop n m)) ∙ append_assoc (take n m) (drop n m) rest) world)

-- and no world leaves the path behind them
barren_leaves : (p : Problem) (m : List Rel) (n d : ℕ) (set : RelSet) → n ≤ d → BeginsNone p (take n m) → (t : List Rel) → IsPossibleWorld p t → Leaves m d set t → ⊥
barren_leaves p m n d set deep none t world l =
    let first : take n (take d m) ≡ take n m = take-take n d m deep in
    barren_longer p (take d m) n (subst (BeginsNone p) (sym first) none) (l.rel ∷ l.rest) (subst (IsPossibleWorld p) l.goes world)

-- so the last level is dropped where it lies behind them
pub drops_barren : (p : Problem) (m : List Rel) (levels : List Level) (k n : ℕ) → length levels ≡ k + 1 → n ≤ (level_at levels k).depth → IsAhead p m levels → BeginsNone p (take n m) →
    IsAhead p m (take k levels)
drops_barren p m levels k n sized deep ahead none = drops_dead p m levels k sized ahead (barren_leaves p m n (level_at levels k).depth (level_at levels k).set deep none)

-- where no world begins with the path, none stands before a place past all that begin with it
none_barren : (p : Problem) (m : List Rel) (other : Option (List Rel)) → IsPast p m other → BeginsNone p m → ListsBetween p m other []
none_barren p m other past none = record {
  onward = onward_of m other (past.before m ([], sym (append-nil m)));
  exactly = none_listed p m other (λ t world upto before.
      let begins = past.only t world (not_from_false (is_below t m) upto) before in
      none begins.0 (subst (IsPossibleWorld p) begins.1 world));
}

-- a way that turns off from such a path passes no world
pub retreated : (old mid new : Way) (n : ℕ) → old.stage ≡ Standing → old.waiting ≡ None → BeginsNone (problem_of old) (take n old.along.path) → mid.along ≡ old.along → mid.waiting ≡ old.waiting →
    problem_of new ≡ problem_of mid → IsWay new → IsPast (problem_of mid) (place mid) (at_of new) → told_of new ≡ [] → WentOn old new
retreated old mid new n standing ready none kept waiting same way past untold =
    let p = problem_of old in
    let m = old.along.path in
    let here : place mid ≡ m = (λ i. (kept i).path ++ option_to_list (waiting i)) ∙ place_ready old ready in
    let same_p : problem_of mid ≡ p = ap (λ l. l.problem) kept in
    let past_m : IsPast p m (at_of new) = subst (λ q. IsPast q m (at_of new)) same_p (subst (λ xs. IsPast (problem_of mid) xs (at_of new)) here past) in
    record {
      problem = same ∙ same_p;
      way = way;
      passed = subst (λ o. Lists p o (at_of new) []) (sym (at_ready old standing ready)) (none_barren p m (at_of new) past_m (barren_longer p m n none));
      untold = untold;
    }
