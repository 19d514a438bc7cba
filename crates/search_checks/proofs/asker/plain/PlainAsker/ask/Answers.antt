use Rattle.std.proofs.Common.{◌∙◌, ap, sym}
use Rattle.point_query.proofs.Querying.{asker_goes_nowhere, solver_moves}
use Rattle.search_checks.proofs.asker.plain.PlainAsker.ask.Goals as goal

pub returns-in_err-selectors-clause-kept : goal.returns-in_err-selectors-clause-kept
returns-in_err-selectors-clause-kept c = asker_goes_nowhere c.args.self.now

pub query-requires-clause-solver : goal.query-requires-clause-solver
query-requires-clause-solver c =
    solver_moves c.self.inside.shape c.args.problem.now c.self.inside.solver (ap (λ a. a.shape) c.self.view_is ∙ c.requires.shape) c.self.invariant

pub invariant_of-self : goal.invariant_of-self
invariant_of-self c =
    solver_moves c.args.problem.now c.self.inside.shape c.query.new.solver (sym (ap (λ a. a.shape) c.self.view_is ∙ c.requires.shape)) c.query.ensures.solver.solver
