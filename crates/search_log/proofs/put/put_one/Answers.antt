use Rattle.std.proofs.Common.{Ok, Err}
use Rattle.search_log.specs.declared.fault.StepFault.TheVariants.{NoMemory}
use Rattle.search_log.proofs.Logs.{adds_one, log_put_err}
use Rattle.search_log.proofs.Leading.{led_put}
use Rattle.search_log.proofs.put.put_one.Goals as goal

pub returns-in_err-put_line-clause-log : goal.returns-in_err-put_line-clause-log
returns-in_err-put_line-clause-log g c =
    log_put_err (Unit {0}) _ c.in_err-put_line.field-0.0 c.from_residual.result c.args.log.now c.put_line.new.self c.from_residual.ensures.1 c.in_err-put_line.ensures.cause
    c.put_line.ensures.later c.put_line.ensures.steady c.in_err-put_line.ensures.quiet c.put_line.ensures.kept

pub returns-clause-log : goal.returns-clause-log
returns-clause-log g c = record {
  told = adds_one (g.L.TreeLog.lines c.args.log.now) (g.L.TreeLog.lines c.put_line.new.self) c.args.line.now c.in_ok-put_line.ensures.ok;
  fault = c.in_ok-put_line.ensures.cause;
  later = c.put_line.ensures.later;
  comes = c.put_line.ensures.steady;
  still = c.in_ok-put_line.ensures.quiet;
  as_before = c.put_line.ensures.kept;
}

pub returns-in_err-put_line-clause-leads : goal.returns-in_err-put_line-clause-leads
returns-in_err-put_line-clause-leads g c = λ asker other.
    led_put {T = Unit {0}} (Err NoMemory) (g.L.TreeLog.lines c.args.log.now) (g.L.TreeLog.lines c.put_line.new.self) asker c.args.line.now other tt c.in_err-put_line.ensures.err

pub returns-clause-leads : goal.returns-clause-leads
returns-clause-leads g c = λ asker other.
    led_put (Ok (tt {0})) (g.L.TreeLog.lines c.args.log.now) (g.L.TreeLog.lines c.put_line.new.self) asker c.args.line.now other c.in_ok-put_line.ensures.ok tt
