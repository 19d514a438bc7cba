-- Problems where the pairs of picks are narrowed.
use Rattle.std.proofs.Common.{◌≡◌, ℕ, ◌<◌, List, [], ◌∷◌, ◌++◌, length, get_or, refl, sym, ap, ◌∙◌, subst, arith}
use Rattle.std.specs.Prelude.{All, IsTrue}
use Rattle.std.proofs.lemmas.List.{get_or_append_left, get_or_push, length-append}
use Rattle.rcc5_core.specs.Relation.{relation_of}
use Rattle.rcc5_core.specs.RelationSet.{only}
use Rattle.rcc5_core.specs.declared.Rel.{Rel}
use Rattle.rcc5_core.specs.declared.RelSet.{RelSet}
use Rattle.constraint_set.specs.Shape.{SameShape}
use Rattle.world_model.specs.Family.{meets, set_of}
use Rattle.world_model.specs.Node.{pair_at}
use Rattle.world_model.specs.Problem.{Problem, narrowed, pair_count}
use Rattle.cert_rules.proofs.Narrowing.{met_is_shown, shown_is_met}
use Rattle.pick_search.specs.Picking.{AreClashes, IsClash, IsPartOf, IsPicked, Makes}
use Rattle.pick_search.specs.declared.picks.Clash.{Clash}
use Rattle.pick_search.specs.declared.picks.Pick.{Pick}

-- problems of one shape have the same pairs
pub same_pair : (p q : Problem) (k : ℕ) → SameShape q p → pair_at q k ≡ pair_at p k
same_pair p q k same = ap (λ r. pair_at r k) same

pub same_count : (p q : Problem) → SameShape q p → pair_count q ≡ pair_count p
same_count p q same = ap pair_count same

-- no pick narrows nothing
pub none_picked : (p q : Problem) (pairs : List ℕ) (picks : List Pick) → q ≡ p → IsPicked p pairs picks q
none_picked p q pairs picks same = subst (λ r. IsPicked p pairs picks r) (sym same) (record { shape = refl; within = λ f met. met; there = λ f met makes. met })

-- one narrows its pair
pub one_picked : (p q : Problem) (pairs : List ℕ) (pick : Pick) (pair : ℕ) (set : RelSet) → get_or pairs pick.place 0 ≡ pair → set ≡ only pick.rel → q ≡ narrowed p (pair_at p pair) set → SameShape q p →
    IsPicked p pairs (pick ∷ []) q
one_picked p q pairs pick pair set at one is shape =
    let same : q ≡ narrowed p (pair_at p pair) (only pick.rel) = is ∙ ap (narrowed p (pair_at p pair)) one in
    record {
      shape = shape;
      within = λ f met. (met_is_shown p (pair_at p pair) pick.rel f (subst (λ r. IsTrue (meets r f)) same met)).0;
      there = λ f met makes.
          subst (λ r. IsTrue (meets r f)) (sym same)
          (shown_is_met p (pair_at p pair) pick.rel f met (ap (λ k. relation_of (set_of f (pair_at p k).0) (set_of f (pair_at p k).1)) (sym at) ∙ makes 0 pick (omega arith)));
    }

-- and one more
pub more_picked : (p q r : Problem) (pairs : List ℕ) (picks : List Pick) (pick : Pick) → IsPicked p pairs picks q → IsPicked q pairs (pick ∷ []) r → IsPicked p pairs (picks ++ pick ∷ []) r
more_picked p q r pairs picks pick a b = record {
  shape = b.shape ∙ a.shape;
  within = λ f met. a.within f (b.within f met);
  there = λ f met makes.
      let longer = length-append picks (pick ∷ []) in
      let front : All (Makes p pairs f) picks = λ k d small. subst (Makes p pairs f) (get_or_append_left picks (pick ∷ []) d k small) (makes k d (omega (arith, longer, small))) in
      let last : Makes p pairs f pick = subst (Makes p pairs f) (get_or_push picks pick pick (length picks) refl) (makes (length picks) pick (omega (arith, longer))) in
      let place = get_or pairs pick.place 0 in
      let here : Makes q pairs f pick = ap (λ pair. relation_of (set_of f pair.0) (set_of f pair.1)) (same_pair p q place a.shape) ∙ last in
      b.there f (a.there f met front) (λ k d small. subst (Makes q pairs f) (sym (single pick k d small)) here);
}
  where
    single : (pick : Pick) (k : ℕ) (d : Pick) → k < 1 → get_or (pick ∷ []) k d ≡ pick
    single pick k d small = let first : k ≡ 0 = omega arith in ap (λ i. get_or (pick ∷ []) i d) first

-- a problem is a part of itself
pub part_whole : (p : Problem) → IsPartOf p p
part_whole p = record { shape = refl; within = λ f met. met }

-- and one with a narrowed pair is one of it
pub part_narrowed : (p q : Problem) (pair : ℕ) (rel : Rel) (set : RelSet) → set ≡ only rel → q ≡ narrowed p (pair_at p pair) set → SameShape q p → IsPartOf q p
part_narrowed p q pair rel set one is shape =
    let same : q ≡ narrowed p (pair_at p pair) (only rel) = is ∙ ap (narrowed p (pair_at p pair)) one in
    record { shape = shape; within = λ f met. (met_is_shown p (pair_at p pair) rel f (subst (λ r. IsTrue (meets r f)) same met)).0 }

-- what clashes in a problem clashes in each part of it
pub part_clash : (p wide : Problem) (pairs : List ℕ) (picks : List Pick) → IsPartOf p wide → IsClash wide pairs picks → IsClash p pairs picks
part_clash p wide pairs picks part clash f met makes =
    clash f (part.within f met)
    (λ k d small. ap (λ pair. relation_of (set_of f pair.0) (set_of f pair.1)) (sym (same_pair wide p (get_or pairs (get_or picks k d).place 0) part.shape)) ∙ makes k d small)

pub part_clashes : (p wide : Problem) (pairs : List ℕ) (clashes : List Clash) → IsPartOf p wide → AreClashes wide pairs clashes → AreClashes p pairs clashes
part_clashes p wide pairs clashes part each = λ k d small. part_clash p wide pairs (get_or clashes k d).picks.items part (each k d small)

-- pairs of a problem are pairs of one of its shape
pub same_pairs : (p q : Problem) (pairs : List ℕ) → SameShape q p → All (λ pair. pair < pair_count p) pairs → All (λ pair. pair < pair_count q) pairs
same_pairs p q pairs same within = subst (λ n. All (λ pair. pair < n) pairs) (sym (same_count p q same)) within
