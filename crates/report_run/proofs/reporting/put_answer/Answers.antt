use Rattle.std.proofs.Common.{rules}
use Rattle.report_run.proofs.PutLemmas.{answer_put, answer_part}
use Rattle.report_run.proofs.reporting.put_answer.Goals as goal

pub returns-in_err-put_reports : goal.returns-in_err-put_reports
returns-in_err-put_reports g c = record {
  ok = search rules;
  err =
      answer_part c.from_residual.result c.args.watchers.items c.deref.result.now _ _ c.args.problem.now c.args.count (g.W.Sink.state c.args.out.now).bytes (g.W.Sink.state c.put_reports.new.out).bytes
      c.deref.ensures.value c.in_err-put_reports.ensures.err;
  cause = search rules;
  later = search rules;
}

pub returns : goal.returns
returns g c =
    answer_put c.put_complete.result c.args.watchers.items c.deref.result.now _ _ c.args.problem.now c.args.count
    (g.W.Sink.state c.args.out.now) (g.W.Sink.state c.put_reports.new.out)
    (g.W.Sink.state c.put_complete.new.out) c.deref.ensures.value c.in_ok-put_reports.ensures.ok c.in_ok-put_reports.ensures.cause c.put_complete.ensures
