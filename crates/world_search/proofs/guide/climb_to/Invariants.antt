use Rattle.std.proofs.Common.{◌-◌, length}
use Rattle.world_model.specs.Alive.{problem_at, IsAlive}
use Rattle.world_search.specs.Guiding.{IsLadderOf}
use Rattle.world_search.proofs.guide.climb_to.Given as goal

abbrev pub invariant-loop-ladder : goal.invariant-loop-ladder
invariant-loop-ladder l = record {
  along : IsLadderOf l.initial.ladder.problem l.prefix l.ladder;
  alive : IsAlive (problem_at l.ladder.problem l.ladder.path);
}

abbrev pub decreases-loop-ladder : goal.decreases-loop-ladder
decreases-loop-ladder l = length l.prefix - length l.ladder.path
