use Rattle.std.proofs.Common.{rules, arith}
use Rattle.report_run.proofs.PutLemmas.{report_put, report_refused}
use Rattle.report_run.proofs.putting.put_reports.Goals as goal

pub returns-in_err-put_report : goal.returns-in_err-put_report
returns-in_err-put_report g c = record {
  ok = search rules;
  err =
      report_refused c.from_residual.result c.args.watchers.now _ _ c.args.problem.now c.args.kinds.now c.loop-place.place c.index-watchers-place.result c.index-kinds-place.result
      (g.W.Sink.state c.args.out.now).bytes (g.W.Sink.state c.loop-place.out).bytes (g.W.Sink.state c.put_report.new.out).bytes c.requires.named (omega arith) c.index-watchers-place.is c.index-kinds-place.is
      c.loop-place.invariant.put c.in_err-put_report.ensures.err;
  cause = search rules;
  later = search rules;
}

pub loop-place-preserved : goal.loop-place-preserved
loop-place-preserved g c = record {
  put =
      report_put c.args.watchers.now _ _ c.args.problem.now c.args.kinds.now c.loop-place.place c.index-watchers-place.result c.index-kinds-place.result
      (g.W.Sink.state c.args.out.now).bytes (g.W.Sink.state c.loop-place.out).bytes (g.W.Sink.state c.put_report.new.out).bytes c.requires.named (omega arith) c.index-watchers-place.is c.index-kinds-place.is
      c.loop-place.invariant.put c.in_ok-put_report.ensures.ok;
  faults = search rules;
}
