-- Lists of sets of articulations.
use Rattle.std.specs.Prelude.{Bool, List}

-- minimal conflicts, and maximal consistent sets
pub record Subsets : Type 0 where
  pub conflicts : List (List Bool)
  pub consistent : List (List Bool)
