use Rattle.run_ends.proofs.ReadLemmas.{one_state}
use Rattle.desk_run.proofs.AskLemmas.{early_script}
use Rattle.desk_run.proofs.asked.asked_of.Goals as goal

pub returns-in-Err-clause-ended : goal.returns-in-Err-clause-ended
returns-in-Err-clause-ended g c =
    early_script c.args.args.now c.text.result.now c.in_ok-problem.problem c.in-Err.status
    (g.S.Store.state c.args.store.now)
    (g.S.Store.state c.problem_of.new.store)
    (g.S.Store.state c.requests_under.new.store)
    c.text.ensures
    (one_state (g.S.Store.state c.args.store.now) (g.S.Store.state c.problem_of.new.store) c.in_ok-problem.ensures.kept c.in_ok-problem.ensures.quiet)
    c.in_ok-problem.ensures.problem c.in-Err.ensures.ended
