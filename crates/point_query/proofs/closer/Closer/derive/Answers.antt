use Rattle.std.proofs.Common.{subst}
use Rattle.std.specs.Prelude.{IfOk, IfSome, IfNone}
use Rattle.learn_solver.specs.Hints.{IsDerived, IsShown}
use Rattle.point_query.proofs.closer.Closer.derive.Goals as goal

pub returns-clause-derived : goal.returns-clause-derived
returns-clause-derived c =
    subst (λ old. IfOk c.derive.result (λ o. IfSome o (IsDerived old c.derive.new.self c.args.lits.now c.args.hints.now))) c.self.view_is c.derive.ensures.derived

pub returns-clause-none : goal.returns-clause-none
returns-clause-none c =
    subst (λ old. IfOk c.derive.result (λ o. IfNone o (IsShown old c.args.lits.now c.args.hints.now → ⊥))) c.self.view_is c.derive.ensures.none
