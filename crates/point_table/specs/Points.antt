-- What the pairs of a problem allow, by their numbers.
use Rattle.std.specs.Prelude.{◌≡◌, ℕ, ◌<◌, List, length, slice_index_or}
use Rattle.rcc5_core.specs.declared.RelSet.{RelSet}
use Rattle.world_model.specs.Problem.{Problem, pair_count}
use Rattle.world_model.specs.Node.{pair_at}
use Rattle.world_model.specs.Alive.{allowed}

-- sets are what the pairs allow, by their numbers
pub record AreAllowed (p : Problem) (sets : List RelSet) : Type 0 where
  pub counted : length sets ≡ pair_count p
  pub each : (k : ℕ) (d : RelSet) → k < pair_count p → slice_index_or sets k d ≡ allowed p (pair_at p k)
