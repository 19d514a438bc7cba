use Rattle.std.proofs.Common.{◌<◌, ◌∙◌, sym, subst}
use Rattle.std.specs.Prelude.{All}
use Rattle.world_model.specs.Problem.{pair_count}
use Rattle.constraint_set.proofs.PointTests.{empty_in_range}
use Rattle.point_table.proofs.table.all_points.Goals as goal

pub rules_of-requires-clause-pairs : goal.rules_of-requires-clause-pairs
rules_of-requires-clause-pairs c =
    subst (λ ps. All (λ pair. pair < pair_count c.args.problem.now) ps) (sym (c.deref.ensures.value ∙ c.in_ok-pairs.ensures)) (empty_in_range c.args.problem.now)
