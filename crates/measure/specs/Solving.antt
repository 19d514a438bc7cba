-- Literals that are assumed.
use Rattle.std.specs.Prelude.{◌≡◌, ℕ, ◌<◌, List, length, slice_index_or}
use Rattle.lits_core.specs.Literals.{variable_of}

-- at each place stands a literal of the variable with this number, so many in all
pub record AreByPlace (count : ℕ) (lits : List ℕ) : Type 0 where
  pub counted : length lits ≡ count
  pub each : (k : ℕ) → k < length lits → variable_of (slice_index_or lits k 0) ≡ k
