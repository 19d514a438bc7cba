use Rattle.std.proofs.Common.{rules, flat_map, length}
use Rattle.run_ends.specs.Ends.{world_line}
use Rattle.run_ends.proofs.PieceLemmas.{piece_after, part_of_more}
use Rattle.check_run.specs.Join.Answering.{joined_line}
use Rattle.check_run.proofs.join.putting.put_text.Goals as goal

pub returns-in_err-put_worlds : goal.returns-in_err-put_worlds
returns-in_err-put_worlds g c = record {
  ok = search rules;
  err =
      part_of_more c.from_residual.result (g.W.Sink.state c.args.out.now).bytes (g.W.Sink.state c.put_worlds.new.out).bytes (flat_map world_line c.args.worlds.now)
      (joined_line (length c.args.worlds.now)) c.in_err-put_worlds.ensures.err;
  cause = search rules;
  later = search rules;
}

pub returns : goal.returns
returns g c =
    piece_after c.put_count.result (flat_map world_line c.args.worlds.now) (joined_line (length c.args.worlds.now))
    (g.W.Sink.state c.args.out.now)
    (g.W.Sink.state c.put_worlds.new.out)
    (g.W.Sink.state c.put_count.new.out)
    c.in_ok-put_worlds.ensures.ok c.in_ok-put_worlds.ensures.cause (search rules)
