-- The bounds of one pair more: the worlds stay, and no point is new.
use Rattle.std.proofs.Common.{◌≡◌, ℕ, zero, suc, ◌+◌, ◌<◌, ◌≤◌, ◌↔◌, Bool, true, false, ◌&&◌, List, [], ◌∷◌, ◌++◌, get_or, set, inl, inr, refl, sym, ap, ◌∙◌, subst, arith, append_assoc}
use Rattle.std.specs.Prelude.{IsTrue, All, nat_lt}
use Rattle.std.specs.List.{list_all}
use Rattle.std.proofs.lemmas.Bool.{and_from, and_parts, cases_eq, false≢true, lt-ltb}
use Rattle.std.proofs.lemmas.List.{append-nil, length-set, get_or-set_same, get_or-set_other}
use Rattle.std.proofs.lemmas.List.Folds.{list_all-append}
use Rattle.rcc5_core.specs.declared.Rel.{Rel}
use Rattle.rcc5_core.specs.declared.RelSet.{RelSet}
use Rattle.rcc5_core.specs.Region.{row_of, forced_regions}
use Rattle.rcc5_core.specs.RelationSet.{has, only, every_rel, is_empty_set}
use Rattle.world_model.specs.Problem.{Problem, Constraint, concept_count, pairs, pair_count, is_problem, is_about_pair, is_concept}
use Rattle.world_model.specs.Family.{IsPossibleWorld}
use Rattle.world_model.specs.Node.{pair_at}
use Rattle.world_model.specs.Alive.{allowed, IsAlive}
use Rattle.world_model.specs.Laws.{DropsTheDead}
use Rattle.world_model.specs.Trial.{points_by_trial}
use Rattle.world_model.proofs.Members.{In-get_or}
use Rattle.world_model.proofs.PointSets.{IsInside, some_rel}
use Rattle.world_model.proofs.PointPairs.{IsPair, from_pairs}
use Rattle.world_model.proofs.PointPositions.{with_narrowings}
use Rattle.world_model.proofs.PointNarrowings.{worlds_stay}
use Rattle.point_table.specs.Points.{AreAllowed}
use Rattle.point_ladder.specs.declared.bounds.Bounds.{Bounds}
use Rattle.point_ladder.specs.Bounds.{bounds_of, bound_to, HoldsPoints, IsAliveIn, AreBounds}
use Rattle.point_frames.specs.Frames.{LeadsOn, IsNarrowed}
use Rattle.point_ladder.specs.Ladders.{IsFrame, ShowsPair, LadderState, IsBoundOf}
use Rattle.world_model.proofs.Narrowed.{forced_only, only_some, only_inside}
use Rattle.point_ladder.proofs.AllowsSame.{AllowsSame, alive_same, point_same, frame_same}
use Rattle.point_ladder.proofs.Served.{holds_all, frame_next, holds_next, alive_next}
use Rattle.point_ladder.proofs.Said.{said_at, said_is_narrower, said_is_same, said_is_dead, narrowed_there, narrowed_other, alive_allows, alive_wider}

-- no pair is narrowed
pub none_bound : (p : Problem) (sets : List RelSet) → bound_to p sets 0 ≡ p
none_bound p sets = ap {B = Problem} (λ ns. record p { narrowings = ns }) (append-nil p.narrowings)

pub first_bounds : (p : Problem) (b : Bounds) → b.count ≡ 0 → AreAllowed p b.sets.items → (IsTrue b.alive ↔ IsAlive p) → IsFrame p (points_by_trial p) b.frame → AreBounds p b
first_bounds p b none are lives frame = record {
  few = omega (arith, none);
  sets_are = subst (λ q. AreAllowed q b.sets.items) (sym is) are;
  worlds = λ t. subst (λ q. IsPossibleWorld q t ↔ IsPossibleWorld p t) (sym is) (λ w. w, λ w. w);
  lives = subst (λ q. IsTrue b.alive ↔ IsAlive q) (sym is) lives;
  holds = λ h. subst (λ q. HoldsPoints q (points_by_trial p)) (sym is) (holds_all p);
  frame = λ h. subst (λ q. IsFrame q (points_by_trial p) b.frame) (sym is) frame;
}
  where
    is : bound_to p b.sets.items b.count ≡ p
    is = ap (bound_to p b.sets.items) none ∙ none_bound p b.sets.items

-- a problem whose pairs are narrowed is one
bounds_fit : (p : Problem) (sets : List RelSet) (n : ℕ) → n ≤ pair_count p → list_all (is_about_pair p) (bounds_of p sets n) ≡ true
bounds_fit p sets zero few = refl
bounds_fit p sets (suc n) few =
    let pair : IsPair p (pair_at p n) = from_pairs p (pair_at p n) (In-get_or (pairs p) n (0, 0) (omega (arith, few))) in
    list_all-append (is_about_pair p) (bounds_of p sets n) (said_at p n (get_or sets n every_rel) ∷ []) ∙
    and_from (list_all (is_about_pair p) (bounds_of p sets n)) (list_all (is_about_pair p) (said_at p n (get_or sets n every_rel) ∷ [])) (bounds_fit p sets n (omega (arith, few)))
    (and_from (nat_lt (pair_at p n).0 (pair_at p n).1 && is_concept p (pair_at p n).1) true
    (and_from (nat_lt (pair_at p n).0 (pair_at p n).1) (is_concept p (pair_at p n).1) (lt-ltb (pair_at p n).0 (pair_at p n).1 pair.order) (lt-ltb (pair_at p n).1 (concept_count p) pair.within)) refl)

pub bound_is_problem : (p : Problem) (sets : List RelSet) (n : ℕ) → n ≤ pair_count p → is_problem p ≡ true → is_problem (bound_to p sets n) ≡ true
bound_is_problem p sets n few h =
    let parts = and_parts _ (list_all (is_about_pair p) p.narrowings) h in
    and_from _ (list_all (is_about_pair p) (p.narrowings ++ bounds_of p sets n)) parts.0
    (list_all-append (is_about_pair p) p.narrowings (bounds_of p sets n) ∙
    and_from (list_all (is_about_pair p) p.narrowings) (list_all (is_about_pair p) (bounds_of p sets n)) parts.1 (bounds_fit p sets n few))

-- sets that agree on the first pairs narrow them alike
bounds_agree : (p : Problem) (sets others : List RelSet) (n : ℕ) → ((i : ℕ) → i < n → get_or others i every_rel ≡ get_or sets i every_rel) → bounds_of p others n ≡ bounds_of p sets n
bounds_agree p sets others zero same = refl
bounds_agree p sets others (suc n) same =
    ap (λ bs. bs ++ said_at p n (get_or others n every_rel) ∷ []) (bounds_agree p sets others n (λ i small. same i (omega (arith, small)))) ∙
    ap (λ s. bounds_of p sets n ++ said_at p n s ∷ []) (same n (omega arith))

-- the narrowings of the first so many pairs
abbrev pub narrowings_to : Problem → List RelSet → ℕ → List Constraint
narrowings_to p sets n = p.narrowings ++ bounds_of p sets n

-- one pair more
pub bound_next : (p : Problem) (sets others : List RelSet) (n : ℕ) (set : RelSet) → ((i : ℕ) → i < n → get_or others i every_rel ≡ get_or sets i every_rel) → get_or others n every_rel ≡ set →
    bound_to p others (n + 1) ≡ with_narrowings p (narrowings_to p sets n ++ said_at p n set ∷ [])
bound_next p sets others n set same is = ap {B = Problem} (λ ns. record p { narrowings = ns }) (
    ap (λ k. p.narrowings ++ bounds_of p others k) one ∙
    ap (λ bs. p.narrowings ++ (bs ++ said_at p n (get_or others n every_rel) ∷ [])) (bounds_agree p sets others n same) ∙
    ap (λ s. p.narrowings ++ (bounds_of p sets n ++ said_at p n s ∷ [])) is ∙
    sym (append_assoc p.narrowings (bounds_of p sets n) (said_at p n set ∷ [])))
  where
    one : n + 1 ≡ suc n
    one = omega arith

-- what is tested of the pair that bounds narrow next: two sets show it, and of the set that it allowed that is left with which it is alive
pub record IsBounded (p : Problem) (b : Bounds) (l r : ℕ → Bool) (old set : RelSet) : Type 0 where
  pub within : b.count < pair_count p
  pub was : old ≡ allowed (bound_to p b.sets.items b.count) (pair_at p b.count)
  pub alive : IsAlive (bound_to p b.sets.items b.count)
  pub holds : HoldsPoints (bound_to p b.sets.items b.count) (points_by_trial p)
  pub frame : IsFrame (bound_to p b.sets.items b.count) (points_by_trial p) b.frame
  pub shows : ShowsPair (pair_at p b.count) (points_by_trial p) l r
  pub has_alive : (rel : Rel) → IsTrue (has set rel) ↔ IsAliveIn b.frame l r old rel

-- with a relation that the pair allows the problem is alive just where the frame says so
tested : (p : Problem) (b : Bounds) (l r : ℕ → Bool) (old set : RelSet) (rel : Rel) → IsBounded p b l r old set → has old rel ≡ true →
    LeadsOn b.frame l r (row_of rel) ↔ IsAlive (with_narrowings p (narrowings_to p b.sets.items b.count ++ said_at p b.count (only rel) ∷ []))
tested p b l r old set rel is allows =
    let ns = narrowings_to p b.sets.items b.count in
    let narrower = said_is_narrower p ns b.count (only rel) is.within (λ other h. only_inside (allowed (with_narrowings p ns) (pair_at p b.count)) rel other (ap (λ s. has s rel) (sym is.was) ∙ allows) h) (only_some rel) in
    subst (λ words. LeadsOn b.frame l r words ↔ IsAlive (with_narrowings p (ns ++ said_at p b.count (only rel) ∷ []))) (forced_only rel)
    (alive_next p ns (ns ++ said_at p b.count (only rel) ∷ []) b.count (only rel) b.frame (points_by_trial p) l r narrower is.frame is.shows is.alive.allow is.holds)

-- the set has each relation with which it is alive
pub bound_drops_dead : (p : Problem) (b : Bounds) (l r : ℕ → Bool) (old set : RelSet) → IsBounded p b l r old set → DropsTheDead (bound_to p b.sets.items b.count) (said_at p b.count set)
bound_drops_dead p b l r old set is rel alive =
    let ns = narrowings_to p b.sets.items b.count in
    let allows : has old rel ≡ true = ap (λ s. has s rel) is.was ∙ alive_allows p ns b.count rel is.within alive in
    let leads = (tested p b l r old set rel is allows).1 alive in
    (is.has_alive rel).1 (allows, leads)

-- and no others than the pair allowed
pub bound_inside : (p : Problem) (b : Bounds) (l r : ℕ → Bool) (old set : RelSet) → IsBounded p b l r old set → IsInside set (allowed (bound_to p b.sets.items b.count) (pair_at p b.count))
bound_inside p b l r old set is rel h = ap (λ s. has s rel) (sym is.was) ∙ ((is.has_alive rel).0 h).0

-- where it has some, the problem stays alive
pub bound_lives : (p : Problem) (b : Bounds) (l r : ℕ → Bool) (old set : RelSet) → IsBounded p b l r old set → is_empty_set set ≡ false →
    IsAlive (with_narrowings p (narrowings_to p b.sets.items b.count ++ said_at p b.count set ∷ []))
bound_lives p b l r old set is some =
    let one = some_rel set some in
    let there = (is.has_alive one.0).0 one.1 in
    alive_wider p (narrowings_to p b.sets.items b.count) b.count set one.0 one.1 ((tested p b l r old set one.0 is there.0).0 there.1)

-- the worlds stay
pub bound_worlds : (p : Problem) (b : Bounds) (l r : ℕ → Bool) (old set : RelSet) → IsBounded p b l r old set → (t : List Rel) →
    IsPossibleWorld (with_narrowings p (narrowings_to p b.sets.items b.count ++ said_at p b.count set ∷ [])) t ↔ IsPossibleWorld (bound_to p b.sets.items b.count) t
bound_worlds p b l r old set is t = worlds_stay (bound_to p b.sets.items b.count) (said_at p b.count set ∷ []) all t
  where
    zero_is : (k : ℕ) → k < 1 → 0 ≡ k
    zero_is k small = omega (arith, small)

    all : All (DropsTheDead (bound_to p b.sets.items b.count)) (said_at p b.count set ∷ [])
    all = λ k d small. subst (λ j. DropsTheDead (bound_to p b.sets.items b.count) (get_or (said_at p b.count set ∷ []) j d)) (zero_is k small) (bound_drops_dead p b l r old set is)

-- the sets of the pairs after one was narrowed
sets_next : (p : Problem) (sets : List RelSet) (n : ℕ) (now : RelSet) → AreAllowed (bound_to p sets n) sets → n < pair_count p → IsInside now (allowed (bound_to p sets n) (pair_at p n)) →
    AreAllowed (with_narrowings p (narrowings_to p sets n ++ said_at p n now ∷ [])) (set sets n now)
sets_next p sets n now are within inside = record {
  counted = length-set sets n now ∙ are.counted;
  each = λ k d small. elim (cases_eq k n) [
    | inl here ↦ subst (λ j. get_or (set sets n now) j d ≡ allowed r (pair_at p j)) (sym here)
        (get_or-set_same sets n now d (let counted = are.counted in omega (arith, counted, within)) ∙ sym (narrowed_there p (narrowings_to p sets n) n now inside))
    | inr apart ↦ get_or-set_other sets n k now d apart ∙ are.each k d small ∙ sym (narrowed_other p (narrowings_to p sets n) n k now within small apart)
  ];
}
  where
    r : Problem
    r = with_narrowings p (narrowings_to p sets n ++ said_at p n now ∷ [])

-- one pair's set was written into the list
written : (sets : List RelSet) (n : ℕ) (now : RelSet) (i : ℕ) → i < n → get_or (set sets n now) i every_rel ≡ get_or sets i every_rel
written sets n now i small = get_or-set_other sets n i now every_rel (λ e. omega (arith, e, small))

-- bounds, by the problem that is narrowed to them
bounds_by : (p q : Problem) (b : Bounds) → bound_to p b.sets.items b.count ≡ q → b.count ≤ pair_count p → AreAllowed q b.sets.items → ((t : List Rel) → IsPossibleWorld q t ↔ IsPossibleWorld p t) → (IsTrue b.alive ↔ IsAlive q) →
    (b.alive ≡ true → HoldsPoints q (points_by_trial p)) → (b.alive ≡ true → IsFrame q (points_by_trial p) b.frame) → AreBounds p b
bounds_by p q b is few are worlds lives holds frame = record {
  few = few;
  sets_are = subst (λ q. AreAllowed q b.sets.items) (sym is) are;
  worlds = λ t. subst (λ q. IsPossibleWorld q t ↔ IsPossibleWorld p t) (sym is) (worlds t);
  lives = subst (λ q. IsTrue b.alive ↔ IsAlive q) (sym is) lives;
  holds = λ h. subst (λ q. HoldsPoints q (points_by_trial p)) (sym is) (holds h);
  frame = λ h. subst (λ q. IsFrame q (points_by_trial p) b.frame) (sym is) (frame h);
}

-- the next pair keeps all that it allows
pub bounds_same : (p : Problem) (b after : Bounds) (l r : ℕ → Bool) (old now : RelSet) → AreBounds p b → b.alive ≡ true → IsBounded p b l r old now → now ≡ old → after ≡ record b { count = b.count + 1 } → AreBounds p after
bounds_same p b after l r old now are alive is same made = subst (AreBounds p) (sym made)
    (bounds_by p q (record b { count = b.count + 1 }) (bound_next p b.sets.items b.sets.items b.count now (λ i small. refl) (sets_are.each b.count every_rel is.within ∙ sym is.was ∙ sym same))
    (let within = is.within in omega (arith, within))
    (record { counted = sets_are.counted; each = λ k d small. sets_are.each k d small ∙ sym (alike (pair_at p k) (In-get_or (pairs p) k (0, 0) small)) })
    (λ t. let one = bound_worlds p b l r old now is t in let rest = are.worlds t in (λ w. rest.0 (one.0 w), λ w. one.1 (rest.1 w)))
    (λ h. alive_same p ns ms alike is.alive, λ h. alive)
    (λ h bits point. is.holds bits (point_same p ns ms bits alike ∙ point))
    (λ h. frame_same p ns ms (points_by_trial p) b.frame alike is.frame))
  where
    ns : List Constraint
    ns = narrowings_to p b.sets.items b.count

    ms : List Constraint
    ms = ns ++ said_at p b.count now ∷ []

    q : Problem
    q = with_narrowings p ms

    sets_are : AreAllowed (bound_to p b.sets.items b.count) b.sets.items
    sets_are = are.sets_are

    alike : AllowsSame p ns ms
    alike = said_is_same p ns b.count now is.within (same ∙ is.was)

-- no relation is left to the next pair
pub bounds_dead : (p : Problem) (b after : Bounds) (l r : ℕ → Bool) (old now : RelSet) → AreBounds p b → IsBounded p b l r old now → is_empty_set now ≡ true →
    after.sets.items ≡ set b.sets.items b.count now → after.count ≡ b.count + 1 → after.alive ≡ false → AreBounds p after
bounds_dead p b after l r old now are is empty sets_is count_is dead =
    bounds_by p q after
    (ap (λ n. bound_to p after.sets.items n) count_is ∙ ap (λ sets. bound_to p sets (b.count + 1)) sets_is ∙ bound_next p b.sets.items (set b.sets.items b.count now) b.count now (written b.sets.items b.count now) (get_or-set_same b.sets.items b.count now every_rel (let counted = are.sets_are.counted in let within = is.within in omega (arith, counted, within))))
    (let within = is.within in omega (arith, within, count_is))
    (subst (AreAllowed q) (sym sets_is) (sets_next p b.sets.items b.count now are.sets_are is.within (bound_inside p b l r old now is)))
    (λ t. let one = bound_worlds p b l r old now is t in let rest = are.worlds t in (λ w. rest.0 (one.0 w), λ w. one.1 (rest.1 w)))
    (λ h. absurd (false≢true (sym dead ∙ h)), λ a. absurd (said_is_dead p (narrowings_to p b.sets.items b.count) b.count now is.within empty a))
    (λ h. absurd (false≢true (sym dead ∙ h)))
    (λ h. absurd (false≢true (sym dead ∙ h)))
  where
    q : Problem
    q = with_narrowings p (narrowings_to p b.sets.items b.count ++ said_at p b.count now ∷ [])

-- the next pair keeps some of them
pub bounds_fewer : (p : Problem) (b after : Bounds) (l r : ℕ → Bool) (old now : RelSet) → AreBounds p b → b.alive ≡ true → IsBounded p b l r old now → is_empty_set now ≡ false →
    after.sets.items ≡ set b.sets.items b.count now → after.count ≡ b.count + 1 → after.alive ≡ b.alive → IsNarrowed b.frame after.frame l r (forced_regions now) → AreBounds p after
bounds_fewer p b after l r old now are alive is some sets_is count_is alive_is frame =
    bounds_by p q after
    (ap (λ n. bound_to p after.sets.items n) count_is ∙ ap (λ sets. bound_to p sets (b.count + 1)) sets_is ∙ bound_next p b.sets.items (set b.sets.items b.count now) b.count now (written b.sets.items b.count now) (get_or-set_same b.sets.items b.count now every_rel (let counted = are.sets_are.counted in let within = is.within in omega (arith, counted, within))))
    (let within = is.within in omega (arith, within, count_is))
    (subst (AreAllowed q) (sym sets_is) (sets_next p b.sets.items b.count now are.sets_are is.within inside))
    (λ t. let one = bound_worlds p b l r old now is t in let rest = are.worlds t in (λ w. rest.0 (one.0 w), λ w. one.1 (rest.1 w)))
    (λ h. bound_lives p b l r old now is some, λ a. alive_is ∙ alive)
    (λ h. holds_next p ns (ns ++ said_at p b.count now ∷ []) b.count now (points_by_trial p) (said_is_narrower p ns b.count now is.within inside some) is.holds)
    (λ h. frame_next p ns (ns ++ said_at p b.count now ∷ []) b.count now b.frame after.frame (points_by_trial p) l r (said_is_narrower p ns b.count now is.within inside some) is.frame is.shows frame)
  where
    ns : List Constraint
    ns = narrowings_to p b.sets.items b.count

    q : Problem
    q = with_narrowings p (ns ++ said_at p b.count now ∷ [])

    inside : IsInside now (allowed (bound_to p b.sets.items b.count) (pair_at p b.count))
    inside = bound_inside p b l r old now is

-- what is tested of a pair with a number by bounds that are alive, as it is read
pub record IsTested (p : Problem) (b : Bounds) (pair : ℕ) (l r : ℕ → Bool) (old set : RelSet) : Type 0 where
  pub bounds : AreBounds p b
  pub alive : b.alive ≡ true
  pub within : pair < pair_count p
  pub shows : ShowsPair (pair_at p pair) (points_by_trial p) l r
  pub read : old ≡ get_or b.sets.items pair old
  pub has_alive : (rel : Rel) → IsTrue (has set rel) ↔ IsAliveIn b.frame l r old rel

pub bounded_next : (p : Problem) (b : Bounds) (pair : ℕ) (l r : ℕ → Bool) (old set : RelSet) → b.count ≡ pair → IsTested p b pair l r old set → IsBounded p b l r old set
bounded_next p b pair l r old set at is = subst (λ n. IsTested p b n l r old set → IsBounded p b l r old set) at here is
  where
    here : IsTested p b b.count l r old set → IsBounded p b l r old set
    here is = record {
      within = is.within;
      was = is.read ∙ is.bounds.sets_are.each b.count old is.within;
      alive = is.bounds.lives.0 is.alive;
      holds = is.bounds.holds is.alive;
      frame = is.bounds.frame is.alive;
      shows = is.shows;
      has_alive = is.has_alive;
    }

-- a ladder at its start over bounds has the worlds of the problem
pub ladder_is_bound : (p copy : Problem) (b : Bounds) (s : LadderState) → AreBounds p b → is_problem p ≡ true → copy ≡ p → s ≡ record { problem = bound_to copy b.sets.items b.count; path = [] } → IsBoundOf p s
ladder_is_bound p copy b s are valid same is = subst (IsBoundOf p) (sym (is ∙ ap {B = LadderState} (λ q. record { problem = bound_to q b.sets.items b.count; path = [] }) same)) (record {
  valid = bound_is_problem p b.sets.items b.count are.few valid;
  pairs_are = refl;
  worlds = are.worlds;
  start = refl;
})
