use Rattle.std.proofs.Common.{◌≡◌, ◌||◌, ◌&&◌, not, true}
use Rattle.std.specs.Prelude.{◌==◌}
use Rattle.std.specs.List.{list_all, range_with_len}
use Rattle.world_model.specs.Problem.{children_of}
use Rattle.world_model.specs.Alive.{bit_of}
use Rattle.point_table.proofs.points.is_apart.Given as goal

abbrev pub invariant-loop-concept : goal.invariant-loop-concept
invariant-loop-concept l = list_all (λ c. list_all (λ a. list_all (λ b. (a == b) || not (bit_of l.bits a && bit_of l.bits b)) (children_of l.problem c)) (children_of l.problem c)) (range_with_len 0 l.concept) ≡ true
