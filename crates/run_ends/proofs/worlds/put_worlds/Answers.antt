use Rattle.std.proofs.Common.{rules, arith}
use Rattle.run_ends.specs.Ends.{world_line}
use Rattle.run_ends.proofs.PieceLemmas.{line_put, line_refused, lines_put}
use Rattle.run_ends.proofs.worlds.put_worlds.Goals as goal

pub returns-in_err-put_world : goal.returns-in_err-put_world
returns-in_err-put_world g c = record {
  ok = search rules;
  err =
      line_refused c.from_residual.result world_line c.args.worlds.now c.worlds.world-index c.world-item.result (g.W.Sink.state c.args.out.now).bytes (g.W.Sink.state c.worlds.out).bytes (g.W.Sink.state c.put_world.new.out).bytes
      (omega arith) c.world-item.is c.worlds.invariant.put c.in_err-put_world.ensures.err;
  cause = search rules;
  later = search rules;
}

pub worlds-preserved : goal.worlds-preserved
worlds-preserved g c = record {
  put =
      line_put world_line c.args.worlds.now c.worlds.world-index c.world-item.result (g.W.Sink.state c.args.out.now).bytes (g.W.Sink.state c.worlds.out).bytes (g.W.Sink.state c.put_world.new.out).bytes
      (omega arith) c.world-item.is c.worlds.invariant.put c.in_ok-put_world.ensures.ok;
  faults = search rules;
}

pub returns : goal.returns
returns g c = record {
  ok = lines_put world_line c.args.worlds.now c.worlds.world-index (g.W.Sink.state c.args.out.now).bytes (g.W.Sink.state c.worlds.out).bytes (omega arith) c.worlds.invariant.put;
  err = search rules;
  cause = search rules;
  later = search rules;
}
