-- Which sets are kept for the prefixes of a path.
use Rattle.std.specs.Prelude.{◌≡◌, ℕ, ◌+◌, Some, slice_get}
use Rattle.rcc5_core.specs.declared.RelSet.{RelSet}
use Rattle.world_search.specs.declared.opens.Opens.{Opens}

-- this set is kept for the prefix of this length
pub record Keeps (opens : Opens) (depth : ℕ) (set : RelSet) : Type 0 where
  pub place : ℕ
  pub at : depth ≡ opens.first + place
  pub kept : slice_get opens.sets.items place ≡ Some set
