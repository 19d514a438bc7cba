use Rattle.std.proofs.Common.{◌*◌, length}
use Rattle.watch_arena.specs.Engines.{Visits, IsWalking}
use Rattle.watch_arena.proofs.ChangedChains.{count_from}
use Rattle.watch_arena.proofs.engine.Engine.propagate_lit.Given as goal

abbrev pub invariant-loop-cur : goal.invariant-loop-cur
invariant-loop-cur l = record {
  visits : Visits l.initial.self l.self l.lit;
  walking : IsWalking l.self l.lit l.prev l.cur;
}

abbrev pub decreases-loop-cur : goal.decreases-loop-cur
decreases-loop-cur l = count_from (2 * length l.self.arena) l.self.arena l.cur
