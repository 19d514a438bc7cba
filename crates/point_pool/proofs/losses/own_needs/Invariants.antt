use Rattle.std.proofs.Common.{◌≡◌, ℕ, ◌+◌, ◌*◌, ◌<◌}
use Rattle.std.specs.Prelude.{Contains}
use Rattle.rcc5_core.specs.Region.{row_of, word_at}
use Rattle.rcc5_core.specs.declared.Occupancy.TheVariants.{Occupied}
use Rattle.point_encode.specs.Model.Forced.{region_with}
use Rattle.point_pool.proofs.losses.own_needs.Given as goal

abbrev pub invariant-loop-part : goal.invariant-loop-part
invariant-loop-part l = (q : ℕ) → q < l.part → word_at (row_of l.rel) (region_with q) ≡ Occupied → Contains l.list.items (3 * l.pair + q)
