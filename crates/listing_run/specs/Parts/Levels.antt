-- The plain way to find the nodes of a length: those that follow the shorter ones.
use Rattle.std.specs.Prelude.{ℕ, zero, suc, List, [], ◌∷◌, ◌++◌, map, flat_map, if◌then◌else◌}
use Rattle.rcc5_core.specs.declared.Rel.{Rel}
use Rattle.world_model.specs.Problem.{Problem}
use Rattle.world_model.specs.Alive.{problem_at}
use Rattle.world_model.specs.Trial.{alive_by_trial, next_rels}

-- what follows a prefix by each relation that its next pair allows
abbrev pub longer : Problem → List Rel → List (List Rel)
longer p m = map (λ rel. m ++ rel ∷ []) (next_rels p m)

-- the nodes that follow a node: none, unless it is alive
abbrev pub followers : Problem → List Rel → List (List Rel)
followers p m = if alive_by_trial (problem_at p m) then longer p m else []

-- the nodes of a length
abbrev pub level_by_trial : Problem → ℕ → List (List Rel)
level_by_trial p zero = [] ∷ []
level_by_trial p (suc d) = flat_map (followers p) (level_by_trial p d)
