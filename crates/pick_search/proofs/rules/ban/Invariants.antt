use Rattle.std.proofs.Common.{◌≡◌, ◌*◌, ◌<◌, take}
use Rattle.std.specs.Prelude.{All}
use Rattle.watch_arena.specs.Trails.{AreInRange}
use Rattle.pick_search.specs.Picking.{ban_clause}
use Rattle.pick_search.proofs.rules.ban.Given as goal

abbrev pub invariant-loop-pick : goal.invariant-loop-pick
invariant-loop-pick l = record {
  clause : l.lits.items ≡ ban_clause (take l.pick-index l.picks);
  places : All (λ pick. pick.place < l.count) (take l.pick-index l.picks);
  range : AreInRange l.lits.items (5 * l.count);
}
