use Rattle.std.proofs.Common.{ap, ◌∙◌}
use Rattle.world_model.specs.Problem.{pair_count}
use Rattle.constraint_set.proofs.problem.Problem.pair_count.Goals as goal

pub returns : goal.returns
returns c = rw (← c.self.view_is) (c.pair_count.ensures ∙ ap pair_count c.deref.ensures)
