use Rattle.std.proofs.Common.{◌≡◌, take}
use Rattle.world_walk.specs.declared.way.Stage.TheVariants.{Standing}
use Rattle.world_walk.specs.Ways.{problem_of, place, IsWay}
use Rattle.world_walk.proofs.start.go_to.Given as goal

-- the position is alive so far, and the way stands there
abbrev pub invariant-loop-rel : goal.invariant-loop-rel
invariant-loop-rel l = record {
  problem : problem_of l.way ≡ problem_of l.fn.way;
  way : IsWay l.way;
  standing : l.way.stage ≡ Standing;
  there : place l.way ≡ take l.rel-index l.from;
}
