use Rattle.std.proofs.Common.{◌≡◌, ◌++◌, map, drop, All}
use Rattle.std.specs.Prelude.{flat_map}
use Rattle.world_model.specs.Problem.{pairs}
use Rattle.world_model.specs.Alive.{forced_of, forced_pairs, needs_at, problem_at}
use Rattle.point_encode.specs.Needs.{need_seen, IsInRange}
use Rattle.point_encode.proofs.need.needs_of.Given as goal

-- what is still to be added of the pairs completes their needs
abbrev pub invariant-loop-pair : goal.invariant-loop-pair
invariant-loop-pair l = record {
  left : map (need_seen l.problem) l.needs.items ++ flat_map needs_at (forced_of (problem_at l.problem l.prefix) (drop l.pair (pairs l.problem))) ≡
      flat_map needs_at (forced_pairs (problem_at l.problem l.prefix));
  range : All (IsInRange l.problem) l.needs.items;
}
