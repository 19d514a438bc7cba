-- A need as the code has it: a region of a pair by their numbers, or a concept.
use Rattle.std.specs.Prelude.{ℕ, ◌+◌, ◌*◌, ◌<◌, List, ◌∷◌, [], Option, Some, None}
use Rattle.world_model.specs.Problem.{Problem, concept_count, pair_count}
use Rattle.world_model.specs.Node.{pair_at}
use Rattle.world_model.specs.Alive.{InRegion, InConcept}
use Rattle.point_encode.specs.Model.Forced.{region_with}
use Rattle.point_encode.specs.declared.need.Need.{Need}
use Rattle.point_encode.specs.declared.need.Need.TheVariants.{Region, Concept}

-- the need of a problem that is meant
abbrev pub need_seen : Problem → Need → Rattle.world_model.specs.Alive.Need
need_seen p (Region pair part) = InRegion (pair_at p pair) (region_with part)
need_seen p (Concept c) = InConcept c

-- its numbers are in range
abbrev pub IsInRange : Problem → Need → Type 0
IsInRange p (Region pair part) = (pair < pair_count p) × (part < 3)
IsInRange p (Concept c) = c < concept_count p

-- its number: three a pair, then the concepts
abbrev pub need_number : Problem → Need → ℕ
need_number p (Region pair part) = 3 * pair + part
need_number p (Concept c) = 3 * pair_count p + c

-- the literals that are there, in order
abbrev pub lits_there : Option ℕ → Option ℕ → List ℕ
lits_there None None = []
lits_there None (Some b) = b ∷ []
lits_there (Some a) None = a ∷ []
lits_there (Some a) (Some b) = a ∷ b ∷ []
