use Rattle.std.proofs.Common.{◌∙◌, ap, eqb, ℕ, sym}
use Rattle.learn_solver.proofs.TrailPlaces.{true-place, not_true-unassigned}
use Rattle.learn_solver.proofs.learner.Learner.is_true.Goals as goal

pub returns-in-Some : goal.returns-in-Some
returns-in-Some c =
    let within = c.in-Some.ensures.within in
    c.eq.ensures ∙ ap (λ (l : ℕ). eqb l c.args.lit) c.lit_on.ensures ∙ true-place c.args.self.now.trail c.in-Some.place c.args.lit c.facts.ensures within.0 within.1

pub returns-in-None : goal.returns-in-None
returns-in-None c = sym (not_true-unassigned c.args.self.now.trail.places c.args.lit (sym c.place_of.ensures.place ∙ c.in-None.is))
