use Rattle.std.proofs.Common.{◌≡◌, ◌||◌, true, length}
use Rattle.std.specs.Prelude.{◌==◌}
use Rattle.std.specs.List.{list_all, list_any, range_with_len}
use Rattle.world_model.specs.Problem.{children_of}
use Rattle.world_model.specs.Family.{implies}
use Rattle.world_model.specs.Alive.{bit_of}
use Rattle.point_table.proofs.points.is_covered.Given as goal

abbrev pub invariant-loop-concept : goal.invariant-loop-concept
invariant-loop-concept l = list_all (λ c. (length (children_of l.problem c) == 0) || implies (bit_of l.bits c) (list_any (bit_of l.bits) (children_of l.problem c))) (range_with_len 0 l.concept) ≡ true
