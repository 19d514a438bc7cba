use Rattle.std.proofs.Common.{◌≡◌, ◌-◌, length}
use Rattle.world_walk.specs.Ways.{told_table}
use Rattle.report_run.proofs.ShowLemmas.{worlds_from, AreShownTo}
use Rattle.report_run.proofs.showing.show_tables.Given as goal

abbrev pub decreases-loop-world : goal.decreases-loop-world
decreases-loop-world g l = length (worlds_from l.problem l.tables.at) - length l.tables.told

abbrev pub invariant-loop-world : goal.invariant-loop-world
invariant-loop-world g l = record {
  problem : l.tables.problem ≡ l.problem;
  world_is : l.world ≡ told_table l.tables.told;
  shown :
      AreShownTo l.initial.watchers.items l.watchers.items (λ z. (goal.WorldWatcher-dyn g (z.vtable, z.value)).name z.value) (λ z. (goal.WorldWatcher-dyn g (z.vtable, z.value)).text z.value)
      l.problem l.tables.at l.tables.told l.count;
}
