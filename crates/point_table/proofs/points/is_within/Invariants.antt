use Rattle.std.proofs.Common.{◌≡◌, true}
use Rattle.std.specs.List.{list_all, range_with_len}
use Rattle.world_model.specs.Problem.{children_of}
use Rattle.world_model.specs.Family.{implies}
use Rattle.world_model.specs.Alive.{bit_of}
use Rattle.point_table.proofs.points.is_within.Given as goal

abbrev pub invariant-loop-concept : goal.invariant-loop-concept
invariant-loop-concept l = list_all (λ c. list_all (λ child. implies (bit_of l.bits child) (bit_of l.bits c)) (children_of l.problem c)) (range_with_len 0 l.concept) ≡ true
