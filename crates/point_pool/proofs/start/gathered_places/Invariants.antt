use Rattle.std.proofs.Common.{◌≡◌, take}
use Rattle.world_model.specs.Problem.{concept_count}
use Rattle.point_pool.proofs.start.gathered_places.Given as goal

abbrev pub invariant-loop-bits : goal.invariant-loop-bits
invariant-loop-bits l = record {
  points : l.places.points ≡ take l.bits-index l.points;
  concepts : l.places.concepts ≡ concept_count l.problem;
}
