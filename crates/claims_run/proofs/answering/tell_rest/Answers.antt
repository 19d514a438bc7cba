use Rattle.std.proofs.Common.{◌≡◌, [], ◌∷◌, Some}
use Rattle.cert_text.specs.declared.line.CertLine.TheVariants.{Claims}
use Rattle.search_log.proofs.Logs.{log_joins, log_ok_as, log_as}
use Rattle.claims_run.specs.Answering.{IsClaimed}
use Rattle.claims_run.specs.Certifying.{AreAllTold}
use Rattle.claims_run.proofs.ClaimedLemmas.{told_rest, none_at_fault}
use Rattle.claims_run.proofs.answering.tell_rest.Goals as goal

pub returns-in_err-answer-clause-told : goal.returns-in_err-answer-clause-told
returns-in_err-answer-clause-told g c =
    none_at_fault c.from_residual.result _ (λ answer. (g.L.TreeLog.lines c.args.log.now) ≡ Some (Claims c.args.problem.now.switches ∷ []) → AreAllTold c.args.problem.now (IsClaimed c.args.problem.now answer) (g.L.TreeLog.lines c.answer.new.log)) c.from_residual.ensures.1

pub returns-in_err-answer-clause-log : goal.returns-in_err-answer-clause-log
returns-in_err-answer-clause-log g c =
    log_as _ c.from_residual.result c.args.log.now c.answer.new.log c.from_residual.ensures.1 c.in_err-answer.ensures.log

pub returns-in_err-put_waiting-clause-told : goal.returns-in_err-put_waiting-clause-told
returns-in_err-put_waiting-clause-told g c =
    none_at_fault c.from_residual-in_err-put_waiting.result _ (λ answer. (g.L.TreeLog.lines c.args.log.now) ≡ Some (Claims c.args.problem.now.switches ∷ []) → AreAllTold c.args.problem.now (IsClaimed c.args.problem.now answer) (g.L.TreeLog.lines c.put_waiting.new.log)) c.from_residual-in_err-put_waiting.ensures.1

pub returns-in_err-put_waiting-clause-log : goal.returns-in_err-put_waiting-clause-log
returns-in_err-put_waiting-clause-log g c =
    log_as _ c.from_residual-in_err-put_waiting.result c.args.log.now c.put_waiting.new.log c.from_residual-in_err-put_waiting.ensures.1
    (log_joins _ _ c.args.log.now c.answer.new.log c.put_waiting.new.log (g.met.L.TreeLog.steady_joins c.args.log.now c.answer.new.log c.put_waiting.new.log) (g.met.L.TreeLog.quiet_joins c.args.log.now c.answer.new.log c.put_waiting.new.log)
    c.in_ok-answer.ensures.log
    c.in_err-put_waiting.ensures.log)

pub returns-in_err-put_one-clause-told : goal.returns-in_err-put_one-clause-told
returns-in_err-put_one-clause-told g c =
    none_at_fault c.from_residual-in_err-put_one.result _ (λ answer. (g.L.TreeLog.lines c.args.log.now) ≡ Some (Claims c.args.problem.now.switches ∷ []) → AreAllTold c.args.problem.now (IsClaimed c.args.problem.now answer) (g.L.TreeLog.lines c.put_one.new.log)) c.from_residual-in_err-put_one.ensures.1

pub returns-in_err-put_one-clause-log : goal.returns-in_err-put_one-clause-log
returns-in_err-put_one-clause-log g c =
    log_as _ c.from_residual-in_err-put_one.result c.args.log.now c.put_one.new.log c.from_residual-in_err-put_one.ensures.1
    (log_joins _ _ c.args.log.now c.put_waiting.new.log c.put_one.new.log (g.met.L.TreeLog.steady_joins c.args.log.now c.put_waiting.new.log c.put_one.new.log) (g.met.L.TreeLog.quiet_joins c.args.log.now c.put_waiting.new.log c.put_one.new.log)
    (log_joins _ _ c.args.log.now c.answer.new.log c.put_waiting.new.log (g.met.L.TreeLog.steady_joins c.args.log.now c.answer.new.log c.put_waiting.new.log) (g.met.L.TreeLog.quiet_joins c.args.log.now c.answer.new.log c.put_waiting.new.log)
    c.in_ok-answer.ensures.log
    c.in_ok-put_waiting.ensures.log)
    c.in_err-put_one.ensures.log)

pub returns-clause-told : goal.returns-clause-told
returns-clause-told g c =
    told_rest _ c.args.problem.now (IsClaimed c.args.problem.now c.in_ok-answer.answer) (g.L.TreeLog.lines c.args.log.now) (g.L.TreeLog.lines c.answer.new.log) (g.L.TreeLog.lines c.put_waiting.new.log) (g.L.TreeLog.lines c.put_one.new.log)
    c.args.asker.now c.answer.new.asker c.put_waiting.new.asker
    c.requires.new c.in_ok-answer.ensures.log.told c.in_ok-answer.ensures.keeps c.put_waiting.ensures.same c.in_ok-put_waiting.ensures.flushed c.in_ok-put_one.ensures.told

pub returns-clause-log : goal.returns-clause-log
returns-clause-log g c =
    log_ok_as _ _ c.args.log.now c.put_one.new.log
    (log_joins _ _ c.args.log.now c.put_waiting.new.log c.put_one.new.log (g.met.L.TreeLog.steady_joins c.args.log.now c.put_waiting.new.log c.put_one.new.log) (g.met.L.TreeLog.quiet_joins c.args.log.now c.put_waiting.new.log c.put_one.new.log)
    (log_joins _ _ c.args.log.now c.answer.new.log c.put_waiting.new.log (g.met.L.TreeLog.steady_joins c.args.log.now c.answer.new.log c.put_waiting.new.log) (g.met.L.TreeLog.quiet_joins c.args.log.now c.answer.new.log c.put_waiting.new.log)
    c.in_ok-answer.ensures.log
    c.in_ok-put_waiting.ensures.log)
    c.in_ok-put_one.ensures.log)
