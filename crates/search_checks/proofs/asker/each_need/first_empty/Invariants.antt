use Rattle.std.proofs.Common.{◌≡◌, ℕ, ◌<◌, not, true}
use Rattle.rcc5_core.specs.RelationSet.{is_empty_set}
use Rattle.world_model.specs.Node.{pair_at}
use Rattle.world_model.specs.Alive.{allowed, problem_at}
use Rattle.search_checks.proofs.asker.each_need.first_empty.Given as goal

abbrev pub invariant-loop-pair : goal.invariant-loop-pair
invariant-loop-pair l = (k : ℕ) → k < l.pair → not (is_empty_set (allowed (problem_at l.problem l.prefix) (pair_at l.problem k))) ≡ true
