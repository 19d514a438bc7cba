use Rattle.pick_search.proofs.blocks.Joins.{keeps_err}
use Rattle.search_log.proofs.Logs.{log_joins, log_ok_as, log_as}
use Rattle.claims_run.specs.Answering.{IsClaimed}
use Rattle.claims_run.proofs.ClaimedLemmas.{possible_made, possible_failed}
use Rattle.claims_run.proofs.answering.possible.Goals as goal

pub returns-in_err-mir-clause-keeps : goal.returns-in_err-mir-clause-keeps
returns-in_err-mir-clause-keeps g c =
    keeps_err _ c.from_residual.result c.args.problem.now (IsClaimed c.args.problem.now) (g.L.TreeLog.lines c.args.log.now) (g.L.TreeLog.lines c.mir.new.log) c.args.asker.now c.mir.new.asker
    c.from_residual.ensures.1 c.in_err-mir.ensures.keeps

pub returns-in_err-mir-clause-log : goal.returns-in_err-mir-clause-log
returns-in_err-mir-clause-log g c = log_as _ c.from_residual.result c.args.log.now c.mir.new.log c.from_residual.ensures.1 c.in_err-mir.ensures.log

pub returns-in_err-some-clause-keeps : goal.returns-in_err-some-clause-keeps
returns-in_err-some-clause-keeps g c =
    possible_failed _ c.from_residual-in_err-some.result c.args.problem.now c.in_ok-mir.mir (g.L.TreeLog.lines c.args.log.now) (g.L.TreeLog.lines c.mir.new.log) (g.L.TreeLog.lines c.has_world.new.log)
    c.args.asker.now c.mir.new.asker c.has_world.new.asker c.from_residual-in_err-some.ensures.1 c.in_ok-mir.ensures.log.told c.in_ok-mir.ensures.keeps c.in_err-some.ensures.keeps

pub returns-in_err-some-clause-log : goal.returns-in_err-some-clause-log
returns-in_err-some-clause-log g c =
    log_as _ c.from_residual-in_err-some.result c.args.log.now c.has_world.new.log c.from_residual-in_err-some.ensures.1
    (log_joins _ _ c.args.log.now c.mir.new.log c.has_world.new.log (g.met.L.TreeLog.steady_joins c.args.log.now c.mir.new.log c.has_world.new.log) (g.met.L.TreeLog.quiet_joins c.args.log.now c.mir.new.log c.has_world.new.log)
    c.in_ok-mir.ensures.log c.in_err-some.ensures.log)

pub returns-clause-keeps : goal.returns-clause-keeps
returns-clause-keeps g c =
    possible_made c.args.problem.now c.in_ok-mir.mir c.in_ok-some.some (g.L.TreeLog.lines c.args.log.now) (g.L.TreeLog.lines c.mir.new.log) (g.L.TreeLog.lines c.has_world.new.log)
    c.args.asker.now c.mir.new.asker c.has_world.new.asker c.in_ok-mir.ensures.log.told c.in_ok-mir.ensures.keeps c.in_ok-some.ensures.keeps

pub returns-clause-log : goal.returns-clause-log
returns-clause-log g c =
    log_ok_as _ _ c.args.log.now c.has_world.new.log
    (log_joins _ _ c.args.log.now c.mir.new.log c.has_world.new.log (g.met.L.TreeLog.steady_joins c.args.log.now c.mir.new.log c.has_world.new.log) (g.met.L.TreeLog.quiet_joins c.args.log.now c.mir.new.log c.has_world.new.log)
    c.in_ok-mir.ensures.log c.in_ok-some.ensures.log)
