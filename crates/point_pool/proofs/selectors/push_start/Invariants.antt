use Rattle.std.proofs.Common.{◌≡◌, ◌+◌, ◌*◌, ◌++◌}
use Rattle.std.specs.Prelude.{flat_map}
use Rattle.std.specs.List.{range_with_len}
use Rattle.world_model.specs.Problem.{concept_count}
use Rattle.world_model.specs.Points.{forced_at}
use Rattle.point_encode.specs.Model.Forced.{pair_selectors}
use Rattle.point_pool.proofs.selectors.push_start.Given as goal

abbrev pub invariant-loop-pair : goal.invariant-loop-pair
invariant-loop-pair l = l.lits.items ≡ l.fn.lits.items ++ flat_map (λ k. pair_selectors (concept_count l.problem + 3 * k) (forced_at l.problem k)) (range_with_len 0 l.pair)
