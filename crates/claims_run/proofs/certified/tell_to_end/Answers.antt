use Rattle.std.proofs.Common.{refl, subst, sym}
use Rattle.cert_text.specs.StoreLogs.{log_lines, log_steady-joins, log_quiet-joins}
use Rattle.search_log.proofs.Logs.{log_joins, log_as, log_ok_as, log_put_err, log_same_ok}
use Rattle.claims_run.specs.Answering.{IsClaimed}
use Rattle.claims_run.specs.Certifying.{IsToldWhole}
use Rattle.claims_run.specs.declared.question.Answer.{Answer}
use Rattle.claims_run.proofs.ClaimedLemmas.{none_at_fault}
use Rattle.claims_run.proofs.certified.tell_to_end.Goals as goal

pub returns-in_err-answer-clause-log : goal.returns-in_err-answer-clause-log
returns-in_err-answer-clause-log g c =
    log_as _ c.from_residual.result c.args.log.now c.tell.new.log c.from_residual.ensures.1 c.in_err-answer.ensures.log

pub returns-in_err-answer-clause-steady : goal.returns-in_err-answer-clause-steady
returns-in_err-answer-clause-steady g c = c.in_err-answer.ensures.steady

pub returns-in_err-finish-clause-log : goal.returns-in_err-finish-clause-log
returns-in_err-finish-clause-log g c =
    log_joins c.in_ok-answer.answer c.from_residual-in_err-finish.result c.args.log.now c.tell.new.log c.finish.new.self
    (log_steady-joins g.S.Store.state c.args.log.now c.tell.new.log c.finish.new.self) (log_quiet-joins g.S.Store.state c.args.log.now c.tell.new.log c.finish.new.self)
    c.in_ok-answer.ensures.log
    (log_put_err (Unit {0}) Answer c.in_err-finish.field-0.0 c.from_residual-in_err-finish.result c.tell.new.log c.finish.new.self c.from_residual-in_err-finish.ensures.1
    c.in_err-finish.ensures.cause c.finish.ensures.later c.finish.ensures.steady c.in_err-finish.ensures.quiet refl)

pub returns-in_err-finish-clause-steady : goal.returns-in_err-finish-clause-steady
returns-in_err-finish-clause-steady g c = (returns-in_err-finish-clause-log g c).comes

pub returns-clause-told : goal.returns-clause-told
returns-clause-told g c =
    subst (IsToldWhole c.args.problem.now (IsClaimed c.args.problem.now c.in_ok-answer.answer) (log_lines g.S.Store.state c.args.log.now)) (sym c.in_ok-finish.ensures.same) c.in_ok-answer.ensures.told

pub returns-clause-log : goal.returns-clause-log
returns-clause-log g c =
    log_ok_as _ _ c.args.log.now c.finish.new.self
    (log_joins c.in_ok-answer.answer _ c.args.log.now c.tell.new.log c.finish.new.self
    (log_steady-joins g.S.Store.state c.args.log.now c.tell.new.log c.finish.new.self) (log_quiet-joins g.S.Store.state c.args.log.now c.tell.new.log c.finish.new.self)
    c.in_ok-answer.ensures.log
    (log_same_ok (tt {0}) c.tell.new.log c.finish.new.self c.in_ok-finish.ensures.same c.in_ok-finish.ensures.cause c.finish.ensures.steady c.in_ok-finish.ensures.quiet refl))

pub returns-clause-steady : goal.returns-clause-steady
returns-clause-steady g c = (returns-clause-log g c).comes
