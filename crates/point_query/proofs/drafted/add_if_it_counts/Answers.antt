use Rattle.point_query.proofs.Querying.{keeps_on, keeps_still}
use Rattle.point_query.proofs.drafted.add_if_it_counts.Goals as goal

pub returns-then-not-step : goal.returns-then-not-step
returns-then-not-step c = record { solver = keeps_still _ _ c.requires.solver }

pub returns-in_err-hints : goal.returns-in_err-hints
returns-in_err-hints c = record { solver = keeps_still _ _ c.requires.solver }

pub returns : goal.returns
returns c = record {
  solver = keeps_on c.law_derived_clauses_follow.ensures c.args.problem.now c.args.solver.now c.derive.new.self c.requires.solver c.derive.ensures.kept;
}
