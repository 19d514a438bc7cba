use Rattle.std.proofs.Common.{◌∙◌, sym, subst}
use Rattle.std.specs.Prelude.{IfOk, IfSome, IfNone}
use Rattle.std.proofs.lemmas.Bool.{true≢false}
use Rattle.learn_solver.specs.Hints.{IsDerived, IsShown}
use Rattle.learn_solver.specs.Learners.{solver_state}
use Rattle.learn_solver.specs.Solving.{GoesTo, SolverState}
use Rattle.watch_arena.specs.Trails.{AreInRange}
use Rattle.learn_solver.proofs.Derived.{derived_at, none_shown}
use Rattle.learn_solver.proofs.StepInvariant.{Steps-refl}
use Rattle.learn_solver.proofs.solver.Solver.derive.Goals as goal

pub returns-then-not-are_in_range-clause-kept : goal.returns-then-not-are_in_range-clause-kept
returns-then-not-are_in_range-clause-kept c = subst (λ s. GoesTo s s) c.self.view_is (Steps-refl c.self.inside.learner c.self.invariant).goes

pub returns-then-not-are_in_range-clause-none : goal.returns-then-not-are_in_range-clause-none
returns-then-not-are_in_range-clause-none c = λ shown.
    let range = subst (λ (s : SolverState). AreInRange c.args.lits.now s.variables) (sym c.self.view_is) shown.range in
    let named = subst (λ n. AreInRange c.args.lits.now n) (sym c.self.invariant.variables) range in
    true≢false (sym (c.are_in_range.ensures.1 named) ∙ c.if-not-are_in_range.true)

pub returns-clause-derived : goal.returns-clause-derived
returns-clause-derived c =
    subst (λ old. IfOk c.derive.result (λ o. IfSome o (IsDerived old (solver_state c.derive.new.self) c.args.lits.now c.args.hints.now))) c.self.view_is
    (derived_at c.derive.result (solver_state c.self.inside.learner) (solver_state c.derive.new.self) c.args.lits.now c.args.hints.now
    (subst (λ n. AreInRange c.args.lits.now n) c.self.invariant.variables (c.are_in_range.ensures.0 c.if-not-are_in_range.false)) c.derive.ensures.shown c.derive.ensures.derived c.derive.ensures.line)

pub returns-clause-none : goal.returns-clause-none
returns-clause-none c =
    subst (λ old. IfOk c.derive.result (λ o. IfNone o (IsShown old c.args.lits.now c.args.hints.now → ⊥))) c.self.view_is
    (none_shown c.derive.result (solver_state c.self.inside.learner) c.args.lits.now c.args.hints.now c.derive.ensures.fault)
