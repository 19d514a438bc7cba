use Rattle.std.proofs.Common.{◌≡◌, take, flat_map}
use Rattle.outer_store.specs.Bytes.{added}
use Rattle.run_ends.specs.Ends.{world_line}
use Rattle.run_ends.proofs.worlds.put_worlds.Given as goal

abbrev pub invariant-worlds : goal.invariant-worlds
invariant-worlds g l = record {
  put : (g.W.Sink.state l.out).bytes ≡ added (g.W.Sink.state l.initial.out).bytes (flat_map world_line (take l.world-index l.worlds));
  faults : (g.W.Sink.state l.out).faults ≡ (g.W.Sink.state l.initial.out).faults;
}
