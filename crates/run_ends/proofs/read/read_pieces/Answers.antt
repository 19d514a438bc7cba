use Rattle.std.proofs.Common.{ℕ, List, Option, arith, rules, ap}
use Rattle.outer_store.proofs.BytesLemmas.{IsFrontOf-turn}
use Rattle.run_ends.proofs.read.read_pieces.Goals as goal

pub pieces-preserved : goal.pieces-preserved
pieces-preserved g c = record {
  front = IsFrontOf-turn ((g.S.Store.state c.pieces.store).held c.args.name.now) ((g.S.Store.state c.read.new.self).held c.args.name.now) c.pieces.bytes.items c.extend_from_slice.new.self.items c.read.new.into c.len-in-pieces.result c.in_ok-count.count
      (omega (arith, c.in_ok-count.ensures.room)) c.pieces.invariant.front (omega (arith, c.pieces.bytes.ok.0, c.len-in-pieces.ensures)) c.in_ok-count.ensures.bytes
      (ap (λ (held : List ℕ → Option (List ℕ)). held c.args.name.now) c.in_ok-count.ensures.only_read.contents) c.in_ok-extend_from_slice.ensures.items;
  room = search rules;
  contents = search rules;
  reads = search rules;
  writes = search rules;
}
