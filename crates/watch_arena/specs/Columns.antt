-- Columns of numbers.
use Rattle.std.specs.Prelude.{◌≡◌, ℕ, ◌<◌, ◌≤◌, List, length, slice_index}

-- numbers of a column are lowered to a limit, from a place on and up to another
pub record Caps (old new : List ℕ) (from to limit : ℕ) : Type 0 where
  pub size : length new ≡ length old
  pub less : (k : ℕ) → slice_index new k ≤ slice_index old k
  pub capped : (k : ℕ) → from ≤ k → k < to → slice_index new k ≤ limit
