use Rattle.std.proofs.Common.{◌∙◌, ap}
use Rattle.world_model.specs.Alive.{problem_at}
use Rattle.point_encode.specs.Numbers.{is_needed}
use Rattle.point_pool.specs.Cursors.{CursorState}
use Rattle.point_query.proofs.bearing.is_needed_after.Goals as goal

pub returns-clause-needed : goal.returns-clause-needed
returns-clause-needed c = c.is_needed-needed.ensures ∙ ap (λ (s : CursorState). is_needed (problem_at s.problem s.path) c.args.number) c.in_ok-push.ensures.ok
