use Rattle.std.proofs.Common.{◌≡◌, []}
use Rattle.world_walk.specs.Ahead.{Lists, BeginAlike}
use Rattle.world_walk.specs.Ways.{problem_of, IsWay, at_of, told_of, told_table, left_of}
use Rattle.world_walk.proofs.way.next_world.Given as goal

-- past the world that was told, and past no other
abbrev pub invariant-loop-patience : goal.invariant-loop-patience
invariant-loop-patience l = record {
  problem : problem_of l.way ≡ problem_of l.fn.way;
  way : IsWay l.way;
  passed : Lists (problem_of l.fn.way) (at_of l.fn.way) (at_of l.way) (told_of l.fn.way);
  untold : told_of l.way ≡ [];
  kept : BeginAlike (told_table (told_of l.fn.way)) l.way.along.path l.kept;
}

abbrev pub decreases-loop-patience : goal.decreases-loop-patience
decreases-loop-patience l = left_of l.way
