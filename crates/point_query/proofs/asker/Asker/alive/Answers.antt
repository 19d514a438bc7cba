use Rattle.std.proofs.Common.{sym, ap, ◌∙◌, subst}
use Rattle.constraint_set.specs.Shape.{shape_of}
use Rattle.point_query.specs.Asking.{AskerGoes}
use Rattle.point_query.specs.Queries.{IsSolverOf}
use Rattle.point_query.proofs.Querying.{asker_goes_nowhere, solver_moves, keeps_pool}
use Rattle.point_query.proofs.asker.Asker.alive.Goals as goal

pub returns-in_err-pool-clause-kept : goal.returns-in_err-pool-clause-kept
returns-in_err-pool-clause-kept c = subst (λ a. AskerGoes c.args.self.now a) (sym c.in_err-pool.ensures.same) (asker_goes_nowhere c.args.self.now)

pub alive-requires-clause-solver : goal.alive-requires-clause-solver
alive-requires-clause-solver c =
    let s = c.self.inside in
    let shape = ap (λ a. a.shape) (c.self.view_is ∙ c.in_ok-pool.ensures.same) ∙ c.requires.shape in
    subst (λ q. IsSolverOf q s.solver) (sym c.in_ok-pool.ensures.pool.problem) (solver_moves s.shape c.args.problem.now s.solver shape c.self.invariant.solved)

pub invariant_of-self : goal.invariant_of-self
invariant_of-self c =
    let s = c.self.inside in
    let shape = ap (λ a. a.shape) (c.self.view_is ∙ c.in_ok-pool.ensures.same) ∙ c.requires.shape in
    keeps_pool s.shape c.args.problem.now c.alive.new.solver s.pool shape (subst (λ q. IsSolverOf q c.alive.new.solver) c.in_ok-pool.ensures.pool.problem c.alive.ensures.solver.solver) c.self.invariant.walked

pub invariant_of-self-2 : goal.invariant_of-self-2
invariant_of-self-2 c =
    let s = c.self.inside in
    let shape = ap (λ a. a.shape) (c.self.view_is ∙ c.in_ok-pool.ensures.same) ∙ c.requires.shape in
    let problem = c.in_ok-answer.ensures.problem ∙ c.in_ok-pool.ensures.pool.problem in
    keeps_pool s.shape c.args.problem.now c.alive.new.solver _ shape (subst (λ q. IsSolverOf q c.alive.new.solver) c.in_ok-pool.ensures.pool.problem c.alive.ensures.solver.solver)
    (c.in_ok-answer.ensures.pool, ap shape_of problem ∙ sym shape)
