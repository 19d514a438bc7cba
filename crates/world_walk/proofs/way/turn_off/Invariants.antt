use Rattle.std.proofs.Common.{◌≡◌, length}
use Rattle.world_walk.specs.Ahead.{IsAhead}
use Rattle.world_walk.specs.Ways.{problem_of, LeadOn}
use Rattle.world_walk.proofs.way.turn_off.Given as goal

-- levels at which nothing is left are dropped
abbrev pub invariant-loop-way : goal.invariant-loop-way
invariant-loop-way l = record {
  along : l.way.along ≡ l.fn.way.along;
  waiting : l.way.waiting ≡ l.fn.way.waiting;
  stage : l.way.stage ≡ l.fn.way.stage;
  ahead : IsAhead (problem_of l.fn.way) l.fn.way.along.path l.way.levels.items;
  leads : LeadOn (problem_of l.fn.way) l.fn.way.along.path l.way.levels.items;
}

abbrev pub decreases-loop-way : goal.decreases-loop-way
decreases-loop-way l = length l.way.levels.items
