-- Relations that were seen in families.
use Rattle.std.proofs.Common.{◌≡◌, ℕ, ◌+◌, Bool, true, false, ◌||◌, List, [], ◌∷◌, ◌++◌, length, get_or, Some, inl, inr, true≢false, refl, sym, ap, subst, ◌∙◌, arith, IsTrue, slice_get}
use Rattle.std.proofs.lemmas.Bool.{cases_eq}
use Rattle.std.proofs.lemmas.Option.{get_or_from_slice_get, slice_get_within}
use Rattle.std.proofs.lemmas.List.{length-append}
use Rattle.std.proofs.Math.ListN.{get_or-append}
use Rattle.rcc5_core.specs.declared.Rel.{Rel}
use Rattle.rcc5_core.specs.declared.Rel.TheVariants.{Equals, Includes, IncludedIn, Overlaps, Disjoint}
use Rattle.rcc5_core.specs.declared.RelSet.{RelSet}
use Rattle.rcc5_core.specs.RelationSet.{has, no_rels, adding}
use Rattle.world_model.specs.Problem.{Problem, cross_pairs}
use Rattle.world_model.specs.Questions.{IsMet, IsPossibleRelation}
use Rattle.point_ladder.proofs.AliveAlone.{at_end}
use Rattle.point_query.proofs.Choosing.{has_none}
use Rattle.mir_report.specs.Possible.{ArePossibleSets}
use Rattle.mir_report.specs.Steps.{AllPossible, AreSeen}

-- nothing is seen
pub none_possible : (p : Problem) (pair : ℕ) (set : RelSet) → set ≡ no_rels → AllPossible p pair set
none_possible p pair set is rel h = absurd (true≢false (sym h ∙ ap (λ s. has s rel) is ∙ has_none rel))

or_none : (b : Bool) → (b || false) ≡ true → b ≡ true
or_none true h = refl
or_none false h = h

-- one more relation is
pub seen_more : (p : Problem) (pair : ℕ) (set : RelSet) (r : Rel) → AllPossible p pair set → IsPossibleRelation p pair r → AllPossible p pair (adding set r)
seen_more p pair set Equals all is Equals h = is
seen_more p pair set Equals all is Includes h = all Includes (or_none (has set Includes) h)
seen_more p pair set Equals all is IncludedIn h = all IncludedIn (or_none (has set IncludedIn) h)
seen_more p pair set Equals all is Overlaps h = all Overlaps (or_none (has set Overlaps) h)
seen_more p pair set Equals all is Disjoint h = all Disjoint (or_none (has set Disjoint) h)
seen_more p pair set Includes all is Equals h = all Equals (or_none (has set Equals) h)
seen_more p pair set Includes all is Includes h = is
seen_more p pair set Includes all is IncludedIn h = all IncludedIn (or_none (has set IncludedIn) h)
seen_more p pair set Includes all is Overlaps h = all Overlaps (or_none (has set Overlaps) h)
seen_more p pair set Includes all is Disjoint h = all Disjoint (or_none (has set Disjoint) h)
seen_more p pair set IncludedIn all is Equals h = all Equals (or_none (has set Equals) h)
seen_more p pair set IncludedIn all is Includes h = all Includes (or_none (has set Includes) h)
seen_more p pair set IncludedIn all is IncludedIn h = is
seen_more p pair set IncludedIn all is Overlaps h = all Overlaps (or_none (has set Overlaps) h)
seen_more p pair set IncludedIn all is Disjoint h = all Disjoint (or_none (has set Disjoint) h)
seen_more p pair set Overlaps all is Equals h = all Equals (or_none (has set Equals) h)
seen_more p pair set Overlaps all is Includes h = all Includes (or_none (has set Includes) h)
seen_more p pair set Overlaps all is IncludedIn h = all IncludedIn (or_none (has set IncludedIn) h)
seen_more p pair set Overlaps all is Overlaps h = is
seen_more p pair set Overlaps all is Disjoint h = all Disjoint (or_none (has set Disjoint) h)
seen_more p pair set Disjoint all is Equals h = all Equals (or_none (has set Equals) h)
seen_more p pair set Disjoint all is Includes h = all Includes (or_none (has set Includes) h)
seen_more p pair set Disjoint all is IncludedIn h = all IncludedIn (or_none (has set IncludedIn) h)
seen_more p pair set Disjoint all is Overlaps h = all Overlaps (or_none (has set Overlaps) h)
seen_more p pair set Disjoint all is Disjoint h = is

-- one pair more
pub seen_pair : (p : Problem) (k : ℕ) (sets more : List RelSet) (set : RelSet) → AreSeen p k sets → AllPossible p k set → more ≡ sets ++ set ∷ [] → AreSeen p (k + 1) more
seen_pair p k sets more set are is put = subst (AreSeen p (k + 1)) (sym put) (record {
  counted = length-append sets (set ∷ []) ∙ (let n = are.counted in omega (arith, n));
  each = λ i d small. elim (cases_eq i k) [
    | inl last ↦ subst (λ j. AllPossible p j (get_or (sets ++ set ∷ []) j d)) (sym last) (subst (AllPossible p k) (sym (at_end sets set k d are.counted)) is)
    | inr before ↦ subst (AllPossible p i) (sym (get_or-append sets (set ∷ []) d i (let n = are.counted in omega (arith, n, small, before)))) (are.each i d (omega (arith, small, before)))
  ];
})

-- where no family meets the problem nothing more is possible than what was seen
pub unmet_sets : (p : Problem) (sets : List RelSet) → AreSeen p (length (cross_pairs p)) sets → (IsMet p → ⊥) → ArePossibleSets p sets
unmet_sets p sets seen unmet = record {
  count = seen.counted;
  each = λ k set got rel. (
    λ h. absurd (unmet (met_by k set got rel h)),
    λ r. absurd (unmet (r.world.0, r.world.1)),
  );
}
  where
    met_by : (k : ℕ) (set : RelSet) → slice_get sets k ≡ Some set → (rel : Rel) → IsTrue (has set rel) → IsMet p
    met_by k set got rel h =
        let room = slice_get_within sets k set got in
        let counted = seen.counted in
        let r = seen.each k set (omega (arith, room, counted)) rel (subst (λ s. IsTrue (has s rel)) (sym (get_or_from_slice_get sets k set set got)) h) in
        (r.world.0, r.world.1)
