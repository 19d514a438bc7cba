use Rattle.std.proofs.Common.{rules, refl}
use Rattle.std.specs.List.{slice_range}
use Rattle.run_ends.proofs.PieceLemmas.{put_next, put_refused}
use Rattle.run_ends.proofs.lines.put_lines.Goals as goal

pub returns-in_err-put_piece : goal.returns-in_err-put_piece
returns-in_err-put_piece g c = record {
  ok = search rules;
  err =
      put_refused c.from_residual.result c.args.text.now c.lines.from c.line_end-to.result (slice_range c.args.text.now c.lines.from c.line_end-to.result)
      (g.W.Sink.state c.args.out.now).bytes (g.W.Sink.state c.lines.out).bytes (g.W.Sink.state c.put_piece.new.out).bytes c.lines.invariant.put c.line_end-to.ensures refl c.in_err-put_piece.ensures.err;
  cause = search rules;
  later = search rules;
}

pub lines-preserved : goal.lines-preserved
lines-preserved g c = record {
  put =
      put_next c.args.text.now c.lines.from c.line_end-to.result (slice_range c.args.text.now c.lines.from c.line_end-to.result)
      (g.W.Sink.state c.args.out.now).bytes (g.W.Sink.state c.lines.out).bytes (g.W.Sink.state c.put_piece.new.out).bytes c.lines.invariant.put c.line_end-to.ensures refl c.in_ok-put_piece.ensures.ok;
  faults = search rules;
}
