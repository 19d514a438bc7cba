use Rattle.std.proofs.Common.{◌≡◌, ◌∙◌, ◌+◌, ap, sym, subst, true}
use Rattle.watch_arena.specs.Places.{is_true}
use Rattle.watch_arena.specs.Trails.{IsTrail}
use Rattle.learn_solver.specs.declared.learner.Learner.{Learner}
use Rattle.learn_solver.specs.Guides.{AssumptionsState, IsGuided, by_trail, assumption_at}
use Rattle.learn_solver.proofs.StepInvariant.{Steps-holding}
use Rattle.learn_solver.proofs.AssumptionsInvariant.{IsGuided-holding}
use Rattle.learn_solver.proofs.learner.Learner.next_open.Goals as goal

-- one more holds, as a change of the start
held : (old loop : Learner) (new : AssumptionsState) → loop ≡ record old { assumptions = record old.assumptions { holding = loop.assumptions.holding } } → new ≡ record loop.assumptions { holding = loop.assumptions.holding + 1 } → record loop { assumptions = new } ≡ record old { assumptions = record old.assumptions { holding = new.holding } }
held old loop new h k =
    let e : new ≡ record old.assumptions { holding = loop.assumptions.holding + 1 } = k ∙ ap (λ (a : AssumptionsState). record a { holding = loop.assumptions.holding + 1 }) (ap (λ (l : Learner). l.assumptions) h) in
    ap (λ (l : Learner). record l { assumptions = new }) h
    ∙ ap (λ (a : AssumptionsState). record old { assumptions = a }) (e ∙ sym (ap (λ (a : AssumptionsState). record old.assumptions { holding = a.holding }) e))

pub returns-then-not-is_true-clause-steps : goal.returns-then-not-is_true-clause-steps
returns-then-not-is_true-clause-steps c = Steps-holding c.args.self.now c.loop-lit.self c.requires.sound c.loop-lit.invariant.same c.loop-lit.invariant.guided

pub loop-lit-preserved : goal.loop-lit-preserved
loop-lit-preserved c =
    let next = c.in-Some.ensures in
    let facts : IsTrail c.loop-lit.self.trail = subst IsTrail (sym (ap (λ (l : Learner). l.trail) c.loop-lit.invariant.same)) c.facts.ensures in
    let on : is_true c.loop-lit.self.trail.places (assumption_at c.loop-lit.self.assumptions c.loop-lit.self.assumptions.holding) ≡ true = ap (is_true c.loop-lit.self.trail.places) (sym next.at) ∙ sym c.is_true.ensures ∙ c.if-not-is_true.false in
    record {
      same = held c.args.self.now c.loop-lit.self c.hold_next.new.self c.loop-lit.invariant.same c.hold_next.ensures;
      guided = subst (λ (a : AssumptionsState). IsGuided (by_trail c.loop-lit.self.trail a)) (sym c.hold_next.ensures)
          (IsGuided-holding c.loop-lit.self.trail c.loop-lit.self.assumptions facts c.loop-lit.invariant.guided next.within on);
    }

pub returns-clause-steps : goal.returns-clause-steps
returns-clause-steps c = Steps-holding c.args.self.now c.loop-lit.self c.requires.sound c.loop-lit.invariant.same c.loop-lit.invariant.guided
