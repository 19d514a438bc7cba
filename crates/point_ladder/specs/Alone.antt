-- What is left of each pair by itself.
use Rattle.std.specs.Prelude.{◌≡◌, ℕ, ◌<◌, ◌↔◌, List, length, slice_index_or, IsTrue}
use Rattle.rcc5_core.specs.declared.Rel.{Rel}
use Rattle.rcc5_core.specs.declared.RelSet.{RelSet}
use Rattle.rcc5_core.specs.RelationSet.{has, only}
use Rattle.world_model.specs.Problem.{Problem, narrowed}
use Rattle.world_model.specs.Node.{pair_at}
use Rattle.world_model.specs.Alive.{IsAlive}

-- a set has just the relations with which a problem is alive where the pair with a number is narrowed to one of them
abbrev pub IsAliveAlone : Problem → ℕ → RelSet → Type 0
IsAliveAlone p pair set = (rel : Rel) → IsTrue (has set rel) ↔ IsAlive (narrowed p (pair_at p pair) (only rel))

-- there is one such set for each of the first so many pairs
pub record AreAliveAlone (p : Problem) (count : ℕ) (sets : List RelSet) : Type 0 where
  pub counted : length sets ≡ count
  pub each : (pair : ℕ) (d : RelSet) → pair < count → IsAliveAlone p pair (slice_index_or sets pair d)
