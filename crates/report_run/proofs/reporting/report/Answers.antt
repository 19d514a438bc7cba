use Rattle.std.proofs.Common.{rules, ◌∙◌, ap}
use Rattle.outer_store.specs.Bytes.{added}
use Rattle.report_run.proofs.PutLemmas.{nothing_put}
use Rattle.report_run.proofs.ReportLemmas.{names_right, text_told, part_told}
use Rattle.report_run.proofs.reporting.report.Goals as goal

pub returns-in_err-count-clause-put : goal.returns-in_err-count-clause-put
returns-in_err-count-clause-put g c = record {
  ok = search rules;
  err = nothing_put c.from_residual-in_err-count.result (g.W.Sink.state c.args.out.now).bytes _;
  cause = search rules;
  later = search rules;
}

pub put_answer-requires-clause-named : goal.put_answer-requires-clause-named
put_answer-requires-clause-named g c =
    names_right _ _ c.args.problem.now c.args.watchers.items c.in_ok-asked.asked.items c.show_all.new.watchers.items c.args.kinds.now c.in_ok-count.count c.requires.kinds c.in_ok-asked.ensures c.in_ok-count.ensures

pub returns-in_err-put_answer-clause-put : goal.returns-in_err-put_answer-clause-put
returns-in_err-put_answer-clause-put g c = record {
  ok = search rules;
  err =
      part_told c.from_residual-in_err-put_answer.result _ _ c.args.problem.now _ c.in_ok-asked.asked.items c.show_all.new.watchers.items c.in_ok-count.count
      (g.W.Sink.state c.args.out.now).bytes (g.W.Sink.state c.put_answer.new.out).bytes c.in_ok-asked.ensures c.in_ok-count.ensures c.in_err-put_answer.ensures.err;
  cause = search rules;
  later = search rules;
}

pub returns-clause-put : goal.returns-clause-put
returns-clause-put g c = record {
  ok =
      c.in_ok-put_answer.ensures.ok
      ∙ ap (added (g.W.Sink.state c.args.out.now).bytes)
      (text_told _ _ c.args.problem.now _ c.in_ok-asked.asked.items c.show_all.new.watchers.items c.in_ok-count.count c.in_ok-asked.ensures c.in_ok-count.ensures);
  err = search rules;
  cause = search rules;
  later = search rules;
}
