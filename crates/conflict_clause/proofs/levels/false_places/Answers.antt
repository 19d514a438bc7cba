use Rattle.std.proofs.Common.{◌≡◌, ℕ, ◌+◌, List, [], ◌∷◌, ◌++◌, take, sym, subst, arith}
use Rattle.std.proofs.lemmas.List.{take_more, take_all}
use Rattle.std.proofs.lemmas.List.Sorted.{IsNonDecreasingBy-from_sort}
use Rattle.conflict_clause.specs.Search.{ArePlacesOf}
use Rattle.conflict_clause.proofs.Shortened.{ArePlacesOf-push, ArePlacesOf-permutation}
use Rattle.conflict_clause.proofs.levels.false_places.Goals as goal

pub loop-lit-preserved : goal.loop-lit-preserved
loop-lit-preserved c =
    let t = c.args.trail.now in
    let more = take_more c.args.lits.now c.loop-lit.lit-index c.lit-item.result c.loop-lit-test.true in
    let lits : take (c.loop-lit.lit-index + 1) c.args.lits.now ≡ take c.loop-lit.lit-index c.args.lits.now ++ c.lit-item.result ∷ [] = cc (more, c.lit-item.is) in
    subst (λ (xs : List ℕ). ArePlacesOf t xs c.push.new.self.items) (sym lits)
    (subst (λ (qs : List ℕ). ArePlacesOf t (take c.loop-lit.lit-index c.args.lits.now ++ c.lit-item.result ∷ []) qs) (sym c.in_ok-push.ensures.items)
    (ArePlacesOf-push t _ _ c.lit-item.result c.false_place.result c.loop-lit.invariant c.false_place.ensures.within c.false_place.ensures.is))

pub returns-clause-of_these : goal.returns-clause-of_these
returns-clause-of_these c =
    let end = c.loop-lit-test.false in
    ArePlacesOf-permutation c.args.trail.now _ _ _
    (subst (λ (xs : List ℕ). ArePlacesOf c.args.trail.now xs c.loop-lit.places.items) (take_all c.loop-lit.lit-index c.args.lits.now (omega arith)) c.loop-lit.invariant)
    c.sort_unstable.ensures.permutation

pub returns-clause-sorted : goal.returns-clause-sorted
returns-clause-sorted c = IsNonDecreasingBy-from_sort (λ x. x) _ c.sort_unstable.ensures.sorted
