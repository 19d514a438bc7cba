use Rattle.std.proofs.Common.{ℕ, List, refl, sym, ap, subst}
use Rattle.watch_arena.specs.Trails.{TrailState, Adds}
use Rattle.learn_solver.specs.declared.learner.Learner.{Learner}
use Rattle.learn_solver.specs.Guides.{by_trail}
use Rattle.learn_solver.specs.Learners.{Steps}
use Rattle.learn_solver.proofs.StepInvariant.{Steps-kept, Steps-noted}
use Rattle.learn_solver.proofs.AssumptionsInvariant.{guide-same}
use Rattle.learn_solver.proofs.Givens.{on_err}
use Rattle.learn_solver.proofs.HintChain.{solver_state-held, AddsLine-noted}
use Rattle.learn_solver.proofs.learner.Learner.add_derived.Goals as goal

pub returns-in_err-at-clause-steps : goal.returns-in_err-at-clause-steps
returns-in_err-at-clause-steps c =
    let same = c.in_err-at.ensures.err.0 in
    let new : Learner = record c.args.self.now { trail = c.add_record.new.self.trail; waiting = c.add_record.new.self.waiting; last = c.add_record.new.self.last } in
    subst (λ (l : Learner). Steps c.args.self.now l) (sym c.add_record.ensures.same)
    (Steps-kept c.args.self.now new c.requires.sound (record { records = ap (λ (t : TrailState). t.records) same; trail_variables = ap (λ (t : TrailState). t.variables) same; variables = refl; analyzer = refl; order = refl; given = refl; last = c.in_err-at.ensures.err.1; waiting = c.add_record.ensures.waiting }) (ap (λ (t : TrailState). by_trail t c.args.self.now.assumptions) same))

pub returns-clause-steps : goal.returns-clause-steps
returns-clause-steps c =
    let adds : Adds c.args.self.now.trail c.add_record.new.self.trail c.args.lits c.add_record.new.self.last =
    subst (λ (lits : List ℕ). Adds c.args.self.now.trail c.add_record.new.self.trail lits c.add_record.new.self.last) c.lits-2.ensures c.in_ok-at.ensures.adds in
    let new : Learner = record c.args.self.now { trail = c.add_record.new.self.trail; waiting = c.push_reserved.new.self; last = c.add_record.new.self.last } in
    subst (λ (l : Learner). Steps c.args.self.now (record l { waiting = c.push_reserved.new.self })) (sym c.add_record.ensures.same)
    (Steps-noted c.args.self.now new c.add_record.new.self.last c.args.lits c.args.hints c.requires.sound c.requires.taught c.in_ok-at.ensures.last refl adds refl refl refl refl (cc (c.push_reserved.ensures.items, c.add_record.ensures.waiting)) (guide-same c.args.self.now.trail c.add_record.new.self.trail c.args.self.now.assumptions adds.places adds.level))

pub returns-in_err-at-clause-err : goal.returns-in_err-at-clause-err
returns-in_err-at-clause-err c =
    on_err _ c.from_residual.result (solver_state-held c.args.self.now c.add_record.new.self c.in_err-at.ensures.err.0 (ap (λ (l : Learner). l.given) c.add_record.ensures.same) c.add_record.ensures.waiting)

pub returns-clause-line : goal.returns-clause-line
returns-clause-line c =
    let adds : Adds c.args.self.now.trail c.add_record.new.self.trail c.args.lits c.add_record.new.self.last =
    subst (λ (lits : List ℕ). Adds c.args.self.now.trail c.add_record.new.self.trail lits c.add_record.new.self.last) c.lits-2.ensures c.in_ok-at.ensures.adds in
    let new : Learner = record c.add_record.new.self { waiting = c.push_reserved.new.self } in
    AddsLine-noted c.args.self.now new c.args.lits c.args.hints c.in_ok-at.at c.add_record.new.self.last c.requires.sound adds c.in_ok-at.ensures.at c.in_ok-at.ensures.last (cc (c.push_reserved.ensures.items, c.add_record.ensures.waiting))
