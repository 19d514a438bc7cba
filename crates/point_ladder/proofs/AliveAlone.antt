-- What the frame of a problem says of each pair by itself.
use Rattle.std.proofs.Common.{◌≡◌, ℕ, ◌+◌, ◌<◌, ◌↔◌, Bool, true, false, List, ◌∷◌, [], ◌++◌, length, get_or, refl, sym, ap, subst, ◌∙◌, inl, inr, arith}
use Rattle.std.proofs.lemmas.Bool.{cases_eq, false≢true}
use Rattle.std.proofs.Math.ListN.{get_or-append}
use Rattle.std.proofs.Math.Seq.{get_or-append_seam}
use Rattle.std.proofs.lemmas.List.{length-append}
use Rattle.rcc5_core.specs.declared.Rel.{Rel}
use Rattle.rcc5_core.specs.declared.Rel.TheVariants.{Equals, Includes, IncludedIn, Overlaps, Disjoint}
use Rattle.rcc5_core.specs.declared.RelSet.{RelSet}
use Rattle.rcc5_core.specs.Region.{row_of}
use Rattle.rcc5_core.specs.RelationSet.{has, only, no_rels}
use Rattle.world_model.specs.Problem.{Problem, pair_count, narrowed}
use Rattle.world_model.specs.Node.{pair_at}
use Rattle.world_model.specs.Alive.{allowed, IsAlive}
use Rattle.world_model.specs.Trial.{points_by_trial}
use Rattle.point_ladder.specs.declared.bounds.Bounds.{Bounds}
use Rattle.point_ladder.specs.Bounds.{bound_to, HoldsPoints}
use Rattle.point_frames.specs.Frames.{LeadsOn}
use Rattle.point_ladder.specs.Ladders.{IsFrame}
use Rattle.point_ladder.specs.Alone.{IsAliveAlone, AreAliveAlone}
use Rattle.world_model.proofs.Narrowed.{forced_only, only_some, only_inside}
use Rattle.point_ladder.proofs.AllowsSame.{same_back, alive_same}
use Rattle.point_ladder.proofs.Served.{alive_next}
use Rattle.point_ladder.proofs.Bounded.{none_bound, IsTested}
use Rattle.point_ladder.proofs.Said.{said_at, said_is_narrower, said_is_same, alive_allows, alive_wider}

-- a problem that is alive where a pair is narrowed is alive
pub alive_before : (p : Problem) (k : ℕ) (rel : Rel) → k < pair_count p → IsAlive (narrowed p (pair_at p k) (only rel)) → IsAlive p
alive_before p k rel within alive =
    alive_same p (p.narrowings ++ said_at p k (allowed p (pair_at p k)) ∷ []) p.narrowings (same_back p p.narrowings _ (said_is_same p p.narrowings k (allowed p (pair_at p k)) within refl))
    (alive_wider p p.narrowings k (allowed p (pair_at p k)) rel (alive_allows p p.narrowings k rel within alive) alive)

-- so nothing is left of the pairs of a dead one
pub none_alone : (p : Problem) (k : ℕ) (set : RelSet) → k < pair_count p → set ≡ no_rels → (IsAlive p → ⊥) → IsAliveAlone p k set
none_alone p k set within none dead rel = (
  λ h. absurd (false≢true (sym (empty rel) ∙ subst (λ s. has s rel ≡ true) none h)),
  λ alive. absurd (dead (alive_before p k rel within alive)),
)
  where
    empty : (rel : Rel) → has no_rels rel ≡ false
    empty Equals = refl
    empty Includes = refl
    empty IncludedIn = refl
    empty Overlaps = refl
    empty Disjoint = refl

-- the bounds before any pair is narrowed are of the problem itself
pub unbound : (p : Problem) (b : Bounds) → b.count ≡ 0 → bound_to p b.sets.items b.count ≡ p
unbound p b none = ap (bound_to p b.sets.items) none ∙ none_bound p b.sets.items

-- with a relation that a pair allows a problem is alive just where its frame says so
pub some_alone : (p : Problem) (b : Bounds) (k : ℕ) (l r : ℕ → Bool) (old set : RelSet) → b.count ≡ 0 → IsTested p b k l r old set → IsAliveAlone p k set
some_alone p b k l r old set none is rel = (
  λ h. let there = (is.has_alive rel).0 h in (tested there.0).0 there.1,
  λ lives. let allows : has old rel ≡ true = ap (λ s. has s rel) was ∙ alive_allows p p.narrowings k rel is.within lives in (is.has_alive rel).1 (allows, (tested allows).1 lives),
)
  where
    here : bound_to p b.sets.items b.count ≡ p
    here = unbound p b none

    frame : IsFrame p (points_by_trial p) b.frame
    frame = subst (λ q. IsFrame q (points_by_trial p) b.frame) here (is.bounds.frame is.alive)

    holds : HoldsPoints p (points_by_trial p)
    holds = subst (λ q. HoldsPoints q (points_by_trial p)) here (is.bounds.holds is.alive)

    lives : IsAlive p
    lives = subst IsAlive here (is.bounds.lives.0 is.alive)

    was : old ≡ allowed p (pair_at p k)
    was = is.read ∙ is.bounds.sets_are.each k old is.within ∙ ap (λ q. allowed q (pair_at p k)) here

    tested : has old rel ≡ true → LeadsOn b.frame l r (row_of rel) ↔ IsAlive (narrowed p (pair_at p k) (only rel))
    tested allows =
        let narrower = said_is_narrower p p.narrowings k (only rel) is.within (λ other h. only_inside (allowed p (pair_at p k)) rel other (ap (λ s. has s rel) (sym was) ∙ allows) h) (only_some rel) in
        subst (λ words. LeadsOn b.frame l r words ↔ IsAlive (narrowed p (pair_at p k) (only rel))) (forced_only rel)
        (alive_next p p.narrowings _ k (only rel) b.frame (points_by_trial p) l r narrower frame is.shows lives.allow holds)

pub at_end : (sets : List RelSet) (set : RelSet) (k : ℕ) (d : RelSet) → length sets ≡ k → get_or (sets ++ set ∷ []) k d ≡ set
at_end sets set k d counted = ap (λ n. get_or (sets ++ set ∷ []) n d) (sym counted) ∙ get_or-append_seam sets set [] d

-- one pair more
pub alone_more : (p : Problem) (k : ℕ) (sets more : List RelSet) (set : RelSet) → AreAliveAlone p k sets → IsAliveAlone p k set → more ≡ sets ++ set ∷ [] → AreAliveAlone p (k + 1) more
alone_more p k sets more set are is put = subst (AreAliveAlone p (k + 1)) (sym put) (record {
  counted = length-append sets (set ∷ []) ∙ (let n = are.counted in omega (arith, n));
  each = λ i d small. elim (cases_eq i k) [
    | inl last ↦ subst (λ j. IsAliveAlone p j (get_or (sets ++ set ∷ []) j d)) (sym last) (subst (IsAliveAlone p k) (sym (at_end sets set k d are.counted)) is)
    | inr before ↦ subst (IsAliveAlone p i) (sym (get_or-append sets (set ∷ []) d i (let n = are.counted in omega (arith, n, small, before)))) (are.each i d (omega (arith, small, before)))
  ];
})
