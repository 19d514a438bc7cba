-- When a family of sets meets a problem.
use Rattle.std.specs.Prelude.{IsTrue}
use Rattle.std.specs.List.{list_all}
use Rattle.world_model.specs.Problem.{Problem}
use Rattle.world_model.specs.Family.{Family, meets}
use Rattle.set_family.specs.Sets.{is_set_below}

-- a family is one, with sets of numbers below its own, and meets the problem
pub record IsMetBy (p : Problem) (f : Family) : Type 0 where
  pub sets : IsTrue (list_all (is_set_below f.universe) f.sets)
  pub met : IsTrue (meets p f)
