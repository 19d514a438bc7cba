use Rattle.std.proofs.Common.{◌∙◌, ◌<◌, refl, sym, ap, subst}
use Rattle.watch_arena.specs.Trails.{TrailState, IsTrail}
use Rattle.learn_solver.specs.Weights.{weight}
use Rattle.learn_solver.specs.Guides.{AssumptionsState, IsGuided, by_trail}
use Rattle.learn_solver.specs.Learners.{guide_of, assumed}
use Rattle.learn_solver.proofs.StepInvariant.{Steps-kept, Steps-moved}
use Rattle.learn_solver.proofs.AssumptionsInvariant.{IsGuided-assumed, guided-all}
use Rattle.learn_solver.proofs.Conflicts.{assumed-lighter}
use Rattle.learn_solver.proofs.learner.Learner.assume.Goals as goal

pub assume-requires-clause-all : goal.assume-requires-clause-all
assume-requires-clause-all c = guided-all (guide_of c.args.self.now) c.requires.sound.guided c.requires.next.within

pub returns-in_err-assume-clause-steps : goal.returns-in_err-assume-clause-steps
returns-in_err-assume-clause-steps c =
    let same = c.in_err-assume.ensures.err in
    Steps-kept _ _ c.requires.sound (record { records = ap (λ (t : TrailState). t.records) same.1; trail_variables = ap (λ (t : TrailState). t.variables) same.1; variables = refl; analyzer = refl; order = refl; given = refl; last = refl; waiting = refl })
    (ap (λ (t : TrailState). by_trail t c.assume.new.self) same.1 ∙ ap (by_trail c.args.self.now.trail) same.0)

pub returns-clause-steps : goal.returns-clause-steps
returns-clause-steps c =
    let t : TrailState = c.args.self.now.trail in
    let trail = c.in_ok-assume.ensures.assumed in
    let begins = c.in_ok-assume.ensures.ok in
    let facts : IsTrail (assumed t c.args.lit) = subst IsTrail trail c.facts-2.ensures in
    Steps-moved _ _ c.requires.sound (record {
      records = ap (λ (u : TrailState). u.records) trail;
      trail_variables = ap (λ (u : TrailState). u.variables) trail;
      variables = refl;
      analyzer = refl;
      order = refl;
      given = refl;
      last = refl;
      waiting = refl;
    }) (ap (λ (a : AssumptionsState). a.lits) begins)
    (subst (λ (u : TrailState). IsGuided (by_trail u c.assume.new.self)) (sym trail)
    (subst (λ (a : AssumptionsState). IsGuided (by_trail (assumed t c.args.lit) a)) (sym begins)
    (IsGuided-assumed t c.args.self.now.assumptions c.args.lit facts c.requires.sound.guided c.requires.next.within c.requires.next.at)))

pub returns-clause-lighter : goal.returns-clause-lighter
returns-clause-lighter c =
    let trail = c.in_ok-assume.ensures.assumed in
    let facts : IsTrail (assumed c.args.self.now.trail c.args.lit) = subst IsTrail trail c.facts-2.ensures in
    subst (λ (t : TrailState). weight t.variables t.places < weight c.args.self.now.trail.variables c.args.self.now.trail.places) (sym trail) (assumed-lighter c.args.self.now.trail c.args.lit facts)
