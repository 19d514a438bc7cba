use Rattle.std.proofs.Common.{◌≡◌, ◌++◌, map, All}
use Rattle.std.specs.List.{range_with_len}
use Rattle.world_model.specs.Alive.{InConcept}
use Rattle.point_encode.specs.Needs.{need_seen, IsInRange}
use Rattle.point_encode.proofs.need.add_concepts.Given as goal

-- the first concepts were added
abbrev pub invariant-loop-concept : goal.invariant-loop-concept
invariant-loop-concept l = record {
  added : map (need_seen l.problem) l.needs.items ≡ map (need_seen l.problem) l.initial.needs.items ++ map InConcept (range_with_len 0 l.concept);
  range : All (IsInRange l.problem) l.needs.items;
}
