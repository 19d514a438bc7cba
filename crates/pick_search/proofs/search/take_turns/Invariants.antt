use Rattle.std.proofs.Common.{◌≡◌}
use Rattle.pick_search.specs.Picking.{AreClashes, IsKnown}
use Rattle.pick_search.proofs.search.take_turns.Given as goal

abbrev pub invariant-loop-turn : goal.invariant-loop-turn
invariant-loop-turn l = record {
  shape : l.asker.shape ≡ l.fn.asker.shape;
  known : IsKnown l.wide l.known;
  own : AreClashes l.problem l.known.pairs.items l.own.items;
}
