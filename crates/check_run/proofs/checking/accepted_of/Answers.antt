use Rattle.std.proofs.Common.{rules}
use Rattle.run_ends.proofs.ReadLemmas.{one_state}
use Rattle.run_ends.proofs.TextLemmas.{if_err}
use Rattle.check_run.proofs.CheckLemmas.{without_problem, found_ok, ended_err}
use Rattle.check_run.proofs.checking.accepted_of.Goals as goal

pub returns-in_err-problem-clause-ended : goal.returns-in_err-problem-clause-ended
returns-in_err-problem-clause-ended g c =
    if_err c.from_residual.result _ _
    (without_problem c.args.input.now c.args.cert.now c.args.switches _ (g.S.Store.state c.args.store.now) (g.S.Store.state c.problem_under.new.store) c.in_err-problem.ensures.ended)
    (search rules)

pub returns-clause-accepted : goal.returns-clause-accepted
returns-clause-accepted g c =
    found_ok c.accepted_under.result c.args.input.now c.args.cert.now c.args.switches c.in_ok-problem.problem (g.S.Store.state c.args.store.now).held (g.S.Store.state c.problem_under.new.store).held
    c.in_ok-problem.ensures.kept c.in_ok-problem.ensures.problem c.accepted_under.ensures.accepted

pub returns-clause-ended : goal.returns-clause-ended
returns-clause-ended g c =
    ended_err c.accepted_under.result c.args.input.now c.args.cert.now c.args.switches c.in_ok-problem.problem
    (g.S.Store.state c.args.store.now)
    (g.S.Store.state c.problem_under.new.store)
    (g.S.Store.state c.accepted_under.new.store)
    (one_state (g.S.Store.state c.args.store.now) (g.S.Store.state c.problem_under.new.store) c.in_ok-problem.ensures.kept c.in_ok-problem.ensures.quiet)
    c.in_ok-problem.ensures.problem c.accepted_under.ensures.ended
