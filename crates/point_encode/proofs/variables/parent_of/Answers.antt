use Rattle.point_encode.proofs.Sizes.{small_parent}
use Rattle.point_encode.proofs.variables.parent_of.Goals as goal

pub returns-clause-small : goal.returns-clause-small
returns-clause-small c = small_parent c.args.problem.now c.facts.ensures.built c.args.concept c.parent.result c.parent.ensures
