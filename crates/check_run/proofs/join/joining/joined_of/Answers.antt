use Rattle.std.proofs.Common.{rules}
use Rattle.run_ends.proofs.ReadLemmas.{one_state}
use Rattle.run_ends.proofs.TextLemmas.{if_err}
use Rattle.check_run.proofs.join.JoinLemmas.{without_problem, found_ok, ended_err}
use Rattle.check_run.proofs.join.joining.joined_of.Goals as goal

pub returns-in_err-problem-clause-ended : goal.returns-in_err-problem-clause-ended
returns-in_err-problem-clause-ended g c =
    if_err c.from_residual.result _ _
    (without_problem c.args.args.now c.text.result.now _ (g.S.Store.state c.args.store.now) (g.S.Store.state c.problem_under.new.store) c.text.ensures c.in_err-problem.ensures.ended)
    (search rules)

pub returns-clause-joined : goal.returns-clause-joined
returns-clause-joined g c =
    found_ok c.joined_under.result c.args.args.now c.text.result.now c.list.result.now c.in_ok-problem.problem (g.S.Store.state c.args.store.now).held (g.S.Store.state c.problem_under.new.store).held
    c.text.ensures c.list.ensures c.in_ok-problem.ensures.kept c.in_ok-problem.ensures.problem c.joined_under.ensures.joined

pub returns-clause-ended : goal.returns-clause-ended
returns-clause-ended g c =
    ended_err c.joined_under.result c.args.args.now c.text.result.now c.list.result.now c.in_ok-problem.problem
    (g.S.Store.state c.args.store.now)
    (g.S.Store.state c.problem_under.new.store)
    (g.S.Store.state c.joined_under.new.store)
    c.text.ensures c.list.ensures
    (one_state (g.S.Store.state c.args.store.now) (g.S.Store.state c.problem_under.new.store) c.in_ok-problem.ensures.kept c.in_ok-problem.ensures.quiet)
    c.in_ok-problem.ensures.problem c.joined_under.ensures.ended
