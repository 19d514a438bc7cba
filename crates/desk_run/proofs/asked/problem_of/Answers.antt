use Rattle.std.proofs.Common.{sym, subst}
use Rattle.desk_run.specs.Steps.{IsEarlyDeskEnd}
use Rattle.desk_run.proofs.AskLemmas.{problem_found, without_problem}
use Rattle.desk_run.proofs.asked.problem_of.Goals as goal

pub returns-in-Ok-clause-problem : goal.returns-in-Ok-clause-problem
returns-in-Ok-clause-problem g c =
    problem_found c.args.args.now (g.S.Store.state c.args.store.now).held c.text.result.now c.in-Ok.problem c.text.ensures c.in-Ok.ensures.problem

pub returns-in-Err-clause-ended : goal.returns-in-Err-clause-ended
returns-in-Err-clause-ended g c =
    subst (λ s. IsEarlyDeskEnd c.args.args.now s (g.S.Store.state c.args.store.now) (g.S.Store.state c.problem_under.new.store)) (sym c.desk_status.ensures)
    (without_problem c.args.args.now c.text.result.now c.in-Err.status (g.S.Store.state c.args.store.now) (g.S.Store.state c.problem_under.new.store) c.text.ensures c.in-Err.ensures.ended)
