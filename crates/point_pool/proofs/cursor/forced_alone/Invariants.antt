use Rattle.std.proofs.Common.{◌≡◌, ℕ, ◌<◌, length, get_or}
use Rattle.rcc5_core.specs.declared.Regions.{Regions}
use Rattle.world_model.specs.Points.{forced_at}
use Rattle.point_pool.proofs.cursor.forced_alone.Given as goal

abbrev pub invariant-loop-pair : goal.invariant-loop-pair
invariant-loop-pair l = record {
  counted : length l.regions.items ≡ l.pair;
  each : (k : ℕ) (d : Regions) → k < l.pair → get_or l.regions.items k d ≡ forced_at l.problem k;
}
