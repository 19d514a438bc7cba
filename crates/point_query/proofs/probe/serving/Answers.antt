use Rattle.std.proofs.Common.{◌≡◌, ◌∙◌, ℕ, sym, subst}
use Rattle.std.specs.Prelude.{Option, IfSome, IfNone}
use Rattle.world_model.specs.Alive.{problem_at, IsAlive}
use Rattle.point_query.specs.Closing.{IsFirstStuck}
use Rattle.point_pool.proofs.Settling.{cursor_from}
use Rattle.point_query.proofs.Deciding.{lost_is_dead}
use Rattle.point_query.proofs.Querying.{keeps_still}
use Rattle.point_query.proofs.probe.serving.Goals as goal

pub returns-in_err-go_to-clause-solver : goal.returns-in_err-go_to-clause-solver
returns-in_err-go_to-clause-solver c = keeps_still _ _ c.requires.solver

pub returns-in-Some-clause-solver : goal.returns-in-Some-clause-solver
returns-in-Some-clause-solver c = keeps_still _ _ c.requires.solver

pub returns-in-Some-2-clause-none : goal.returns-in-Some-2-clause-none
returns-in-Some-2-clause-none c = λ alive.
    let p = c.args.pool.now.cursor.problem in
    let m = c.args.prefix.now in
    let w = c.settle.new.pool in
    let path = subst (λ (o : Option ℕ). IfNone o (c.go_to.new.self.cursor.path ≡ m)) c.in_default.is c.in_ok-go_to.ensures.path in
    let same = c.in_ok-settle.ensures.cursor ∙ cursor_from c.go_to.new.self.cursor p m c.in_ok-go_to.ensures.problem path in
    let stuck = subst (λ o. IfSome o (λ (x : ℕ × ℕ). IsFirstStuck w c.settle.new.solver x.0 x.1)) c.in-Some-2.is c.in_ok-settle.ensures.closed in
    lost_is_dead w.cursor.problem w.cursor.path c.in-Some-2.field-0.0 stuck.within stuck.needed stuck.closed.no_point (subst (λ s. IsAlive (problem_at s.problem s.path)) (sym same) alive)
