use Rattle.std.proofs.Common.{◌≡◌, map, take}
use Rattle.world_model.specs.Problem.{pairs}
use Rattle.world_model.specs.Alive.{allowed, problem_at}
use Rattle.plain_walk.proofs.trial.allowed_sets.Given as goal

abbrev pub invariant-loop-number : goal.invariant-loop-number
invariant-loop-number l = l.sets.items ≡ map (λ pair. (pair, allowed (problem_at l.problem l.prefix) pair)) (take l.number (pairs l.problem))
