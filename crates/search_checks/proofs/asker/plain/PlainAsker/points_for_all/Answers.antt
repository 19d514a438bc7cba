use Rattle.std.proofs.Common.{◌∙◌, ap, sym}
use Rattle.point_query.proofs.Querying.{asker_goes_nowhere, solver_moves}
use Rattle.search_checks.proofs.asker.plain.PlainAsker.points_for_all.Goals as goal

pub returns-in_err-selectors-clause-kept : goal.returns-in_err-selectors-clause-kept
returns-in_err-selectors-clause-kept c = asker_goes_nowhere c.args.self.now

pub returns-in_err-needs-clause-kept : goal.returns-in_err-needs-clause-kept
returns-in_err-needs-clause-kept c = asker_goes_nowhere c.args.self.now

pub points_for_all-requires-clause-solver : goal.points_for_all-requires-clause-solver
points_for_all-requires-clause-solver c =
    solver_moves c.self.inside.shape c.args.problem.now c.self.inside.solver (ap (λ a. a.shape) c.self.view_is ∙ c.requires.shape) c.self.invariant

pub invariant_of-self : goal.invariant_of-self
invariant_of-self c =
    solver_moves c.args.problem.now c.self.inside.shape c.points_for_all.new.solver (sym (ap (λ a. a.shape) c.self.view_is ∙ c.requires.shape)) c.points_for_all.ensures.solver.solver
