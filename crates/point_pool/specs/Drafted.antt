-- What is tested of drafted bits, concept by concept.
use Rattle.std.specs.Prelude.{Bool, IsTrue, List, ℕ, ◌<◌, ◌≡◌, ◌⊎◌}
use Rattle.world_model.specs.Node.{pair_at}
use Rattle.world_model.specs.Points.{avoids_at}
use Rattle.world_model.specs.Problem.{Problem, concept_count, pair_count}

-- bits are in no region of the pair of two concepts that is forced empty, whichever of the two comes first
abbrev pub AvoidsPair : Problem → List Bool → ℕ → ℕ → Type 0
AvoidsPair p bits x y = (k : ℕ) → k < pair_count p → (pair_at p k ≡ (x, y)) ⊎ (pair_at p k ≡ (y, x)) → IsTrue (avoids_at p bits k)

-- bits are in no forced-empty region of any pair of a concept
abbrev pub AvoidsPairsOf : Problem → List Bool → ℕ → Type 0
AvoidsPairsOf p bits x = (y : ℕ) → y < concept_count p → AvoidsPair p bits x y
