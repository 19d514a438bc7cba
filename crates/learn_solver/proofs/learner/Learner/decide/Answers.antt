use Rattle.std.proofs.Common.{◌<◌, Bool, List, refl, sym, ap, subst}
use Rattle.watch_arena.specs.Trails.{TrailState, IsTrail}
use Rattle.learn_solver.specs.declared.learner.Learner.{Learner}
use Rattle.learn_solver.specs.Noted.{AreAssigned}
use Rattle.learn_solver.specs.Weights.{weight}
use Rattle.learn_solver.specs.Guides.{IsGuided, by_trail}
use Rattle.learn_solver.specs.Learners.{assumed}
use Rattle.learn_solver.proofs.StepInvariant.{Steps-kept, Steps-moved, IsLearner-kept}
use Rattle.learn_solver.proofs.AssumptionsInvariant.{IsGuided-decided, holding-true}
use Rattle.learn_solver.proofs.Conflicts.{assumed-lighter}
use Rattle.learn_solver.proofs.ModelOrRefutation.{IsModel-bits}
use Rattle.learn_solver.proofs.learner.Learner.decide.Goals as goal

pub returns-in_err-bits-in-None-clause-steps : goal.returns-in_err-bits-in-None-clause-steps
returns-in_err-bits-in-None-clause-steps c = Steps-kept _ _ c.requires.sound (record { records = refl; trail_variables = refl; variables = refl; analyzer = refl; order = c.pick.ensures.kept; given = refl; last = refl; waiting = refl }) refl

pub returns-in-Some-clause-steps : goal.returns-in-Some-clause-steps
returns-in-Some-clause-steps c = Steps-moved _ _ c.requires.sound (record {
  records = ap (λ (t : TrailState). t.records) c.assume.ensures;
  trail_variables = ap (λ (t : TrailState). t.variables) c.assume.ensures;
  variables = refl;
  analyzer = refl;
  order = c.pick.ensures.kept;
  last = refl;
  given = refl;
  waiting = refl;
}) refl
    (subst (λ (t : TrailState). IsGuided (by_trail t c.args.self.now.assumptions)) (sym c.assume.ensures) (IsGuided-decided c.args.self.now.trail c.args.self.now.assumptions c.in-Some.lit c.requires.sound.guided c.requires.holding))

pub returns-in-Some-clause-served : goal.returns-in-Some-clause-served
returns-in-Some-clause-served c =
    let facts : IsTrail (assumed c.args.self.now.trail c.in-Some.lit) = subst (λ (t : TrailState). IsTrail t) c.assume.ensures c.facts-in-Some.ensures in
    subst (λ (t : TrailState). weight t.variables t.places < weight c.args.self.now.trail.variables c.args.self.now.trail.places) (sym c.assume.ensures) (assumed-lighter c.args.self.now.trail c.in-Some.lit facts)

pub returns-in_ok-bits-in-None-clause-steps : goal.returns-in_ok-bits-in-None-clause-steps
returns-in_ok-bits-in-None-clause-steps c = Steps-kept _ _ c.requires.sound (record { records = refl; trail_variables = refl; variables = refl; analyzer = refl; order = c.pick.ensures.kept; given = refl; last = refl; waiting = refl }) refl

pub returns-in_ok-bits-in-None-clause-served : goal.returns-in_ok-bits-in-None-clause-served
returns-in_ok-bits-in-None-clause-served c =
    let picked : Learner = record c.args.self.now { order = c.pick.new.self } in
    let sound = IsLearner-kept c.args.self.now picked c.requires.sound (record { records = refl; trail_variables = refl; variables = refl; analyzer = refl; order = c.pick.ensures.kept; given = refl; last = refl; waiting = refl }) refl in
    let assigned : AreAssigned c.pick.new.self c.args.self.now.trail.places = subst (λ (noted : List Bool). AreAssigned noted c.args.self.now.trail.places) (sym c.pick.ensures.kept) c.in-None.ensures.picked in
    IsModel-bits picked picked.assumptions.lits c.in_ok-bits-in-None.bits c.facts.ensures sound c.requires.propagated assigned c.in_ok-bits-in-None.ensures
    (λ lit has. holding-true c.args.self.now.trail c.args.self.now.assumptions lit c.facts.ensures c.requires.sound.guided.marked c.requires.holding has)
