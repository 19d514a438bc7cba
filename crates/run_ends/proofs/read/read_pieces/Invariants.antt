use Rattle.std.proofs.Common.{◌≡◌, ◌-◌, ◌<◌, length, vec_len}
use Rattle.outer_store.proofs.BytesLemmas.{IsFrontOf}
use Rattle.run_ends.proofs.read.read_pieces.Given as goal

abbrev pub invariant-pieces : goal.invariant-pieces
invariant-pieces g l = record {
  front : IsFrontOf l.bytes.items ((g.S.Store.state l.store).held l.name);
  room : 0 < length l.piece;
  contents : (g.S.Store.state l.store).held ≡ (g.S.Store.state l.initial.store).held;
  reads : (g.S.Store.state l.store).reads ≡ (g.S.Store.state l.initial.store).reads;
  writes : (g.S.Store.state l.store).writes ≡ (g.S.Store.state l.initial.store).writes;
}

abbrev pub decreases-pieces : goal.decreases-pieces
decreases-pieces g l = l.limit - vec_len l.bytes
