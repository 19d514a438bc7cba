use Rattle.std.proofs.Common.{◌≡◌, ◌∙◌, ℕ, List, [], ◌∷◌, ◌++◌, length, refl, sym, subst, arith}
use Rattle.std.specs.List.{Contains}
use Rattle.std.proofs.lemmas.List.Elements.{Contains-push}
use Rattle.conflict_clause.specs.Search.{ArePlacesOf}
use Rattle.conflict_clause.proofs.AtPlaces.{false_in_range}
use Rattle.conflict_clause.proofs.Shortened.{AreLeft, IsShortened, AreLeft-start, AreLeft-popped, IsShortened-start, IsShortened-settled, IsReached-shortened}
use Rattle.conflict_clause.proofs.analysis.Analysis.minimize.Goals as goal

pub false_places-requires-clause-range : goal.false_places-requires-clause-range
false_places-requires-clause-range c lit has =
    false_in_range c.args.trail.now lit c.facts.ensures (c.requires.reached.lower lit (subst (λ (xs : List ℕ). Contains xs lit) c.deref.ensures.value has)).off

pub loop-place-init : goal.loop-place-init
loop-place-init c =
    let are : ArePlacesOf c.args.trail.now c.args.self.now.lits.items c.in_ok-places.places.items = subst (λ (xs : List ℕ). ArePlacesOf c.args.trail.now xs c.in_ok-places.places.items) c.deref.ensures.value c.in_ok-places.ensures.of_these in
    record {
      marks = refl;
      seen = refl;
      lowest = refl;
      left = AreLeft-start c.args.trail.now c.args.self.now.lits.items c.in_ok-places.places.items c.facts.ensures are c.in_ok-places.ensures.sorted;
      shortened = IsShortened-start c.args.trail.now c.args.self.now _ c.in_ok-places.places.items c.requires.reached are c.clear.ensures.items refl;
    }

pub settle-requires-clause-within : goal.settle-requires-clause-within
settle-requires-clause-within c =
    let popped : c.loop-place.places.items ≡ c.pop.new.self.items ++ c.in-Some.place ∷ [] = c.in-Some.ensures.items in
    c.loop-place.invariant.left.within c.in-Some.place (subst (λ (xs : List ℕ). Contains xs c.in-Some.place) (sym popped) (Contains-push c.pop.new.self.items c.in-Some.place))

pub loop-place-preserved : goal.loop-place-preserved
loop-place-preserved c =
    let t = c.args.trail.now in
    let old = c.args.self.now in
    let popped : c.loop-place.places.items ≡ c.pop.new.self.items ++ c.in-Some.place ∷ [] = c.in-Some.ensures.items in
    record {
      marks = c.settle.ensures.marks ∙ c.loop-place.invariant.marks;
      seen = c.settle.ensures.seen ∙ c.loop-place.invariant.seen;
      lowest = c.settle.ensures.lowest ∙ c.loop-place.invariant.lowest;
      left = AreLeft-popped t old.lits.items c.loop-place.places.items c.pop.new.self.items c.in-Some.place c.loop-place.invariant.left popped;
      shortened = IsShortened-settled t old c.loop-place.self c.settle.new.self c.pop.new.self.items c.in-Some.place c.facts.ensures c.requires.reached c.requires.below c.loop-place.invariant.marks
          (subst (λ (xs : List ℕ). AreLeft t old.lits.items xs) popped c.loop-place.invariant.left)
          (subst (λ (xs : List ℕ). IsShortened t old c.loop-place.self xs) popped c.loop-place.invariant.shortened) c.in_ok-settle.ensures.settled;
    }

pub returns-clause-reached : goal.returns-clause-reached
returns-clause-reached c =
    let none : length c.loop-place.places.items ≡ 0 = omega (arith, c.loop-place.places.ok, c.in_default.ensures.cases.0) in
    IsReached-shortened c.args.trail.now c.args.self.now c.loop-place.self c.loop-place.places.items c.requires.reached c.loop-place.invariant.shortened none c.loop-place.invariant.lowest
