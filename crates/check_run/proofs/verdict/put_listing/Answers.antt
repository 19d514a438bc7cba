use Rattle.std.proofs.Common.{rules, ◌++◌, codes, flat_map, length}
use Rattle.proof_text.specs.Words.{position_word}
use Rattle.cert_text.specs.Lines.{end_word}
use Rattle.run_ends.specs.Ends.{line_of, world_line}
use Rattle.check_run.specs.Checking.{accepted_line}
use Rattle.run_ends.proofs.PieceLemmas.{piece_after, part_of_more}
use Rattle.check_run.proofs.verdict.put_listing.Goals as goal

pub returns-in_err-put : goal.returns-in_err-put
returns-in_err-put g c = record {
  ok = search rules;
  err =
      part_of_more c.from_residual-in_err-put.result (g.W.Sink.state c.args.out.now).bytes (g.W.Sink.state c.put.new.self).bytes (line_of (codes "from " ++ position_word c.args.from.now))
      (flat_map world_line c.args.worlds.now ++ (line_of (codes "to " ++ end_word c.args.to.now) ++ accepted_line (length c.args.worlds.now))) (search rules);
  cause = search rules;
  later = search rules;
}

pub returns : goal.returns
returns g c =
    piece_after c.put_listed.result (line_of (codes "from " ++ position_word c.args.from.now))
    (flat_map world_line c.args.worlds.now ++ (line_of (codes "to " ++ end_word c.args.to.now) ++ accepted_line (length c.args.worlds.now)))
    (g.W.Sink.state c.args.out.now)
    (g.W.Sink.state c.put.new.self)
    (g.W.Sink.state c.put_listed.new.out)
    (search rules) (search rules) c.put_listed.ensures
