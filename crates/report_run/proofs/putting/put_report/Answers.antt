use Rattle.std.proofs.Common.{rules, ◌++◌, [], codes}
use Rattle.run_ends.specs.Ends.{line_of, in_lines}
use Rattle.run_ends.proofs.PieceLemmas.{piece_after, part_of_more}
use Rattle.report_run.proofs.putting.put_report.Goals as goal

pub returns-in_err-put_heading : goal.returns-in_err-put_heading
returns-in_err-put_heading g c = record {
  ok = search rules;
  err =
      part_of_more c.from_residual.result (g.W.Sink.state c.args.out.now).bytes (g.W.Sink.state c.put_heading.new.out).bytes (line_of (codes "report " ++ c.args.kind.now))
      (in_lines ((goal.WorldWatcher-dyn g (c.args.watcher.now.vtable, c.args.watcher.now.value)).text c.args.watcher.now.value c.args.problem.now [])) c.in_err-put_heading.ensures.err;
  cause = search rules;
  later = search rules;
}

pub returns : goal.returns
returns g c =
    piece_after c.put_told.result (line_of (codes "report " ++ c.args.kind.now))
    (in_lines ((goal.WorldWatcher-dyn g (c.args.watcher.now.vtable, c.args.watcher.now.value)).text c.args.watcher.now.value c.args.problem.now []))
    (g.W.Sink.state c.args.out.now) (g.W.Sink.state c.put_heading.new.out)
    (g.W.Sink.state c.put_told.new.out) c.in_ok-put_heading.ensures.ok c.in_ok-put_heading.ensures.cause c.put_told.ensures
