use Rattle.std.proofs.Common.{ℕ, ◌≡◌, ◌∙◌, Bool, true, false, eqb, Option, Some, None, refl, sym, ap}
use Rattle.std.specs.Prelude.{not, is_none, is_some}
use Rattle.std.proofs.lemmas.Bool.{true≢false, eqb-true}
use Rattle.learn_solver.proofs.TrailPlaces.{decided-at}
use Rattle.learn_solver.proofs.learner.Learner.is_assumed.Goals as goal

none-told : (o : Option ℕ) (b : Bool) → is_some o ≡ not b → b ≡ true → is_none o ≡ true
none-told None b e on = refl
none-told (Some at) b e on = absurd (true≢false (e ∙ ap not on))

not_differs : (a b : Bool) → a ≡ not b → a ≡ false → b ≡ true
not_differs a true e off = refl
not_differs a false e off = absurd (true≢false (sym e ∙ off))

pub returns : goal.returns
returns c = λ on.
    let within = c.in-Some.ensures.within in
    let same = eqb-true c.lit_on.result c.args.lit (not_differs c.ne.result (eqb c.lit_on.result c.args.lit) c.ne.ensures c.if-ne.false) in
    decided-at c.args.self.now.trail.places c.in-Some.place c.args.lit within.0 (sym c.lit_on.ensures ∙ same)
    (ap is_none (sym c.reason_on.ensures) ∙ none-told c.reason_on.result c.is_none.result c.is_none.ensures on)
