use Rattle.std.proofs.Common.{not, arith}
use Rattle.rcc5_core.specs.RelationSet.{is_empty_set}
use Rattle.world_model.specs.Problem.{pairs}
use Rattle.world_model.specs.Alive.{allowed, problem_at}
use Rattle.point_pool.proofs.Serving.{all_from_places}
use Rattle.search_checks.proofs.asker.each_need.first_empty.Goals as goal

pub returns-clause-none : goal.returns-clause-none
returns-clause-none c =
    all_from_places (λ pair. not (is_empty_set (allowed (problem_at c.args.problem.now c.args.prefix.now) pair))) (pairs c.args.problem.now) (0, 0)
    (λ k h. c.loop-pair.invariant k (omega arith))
