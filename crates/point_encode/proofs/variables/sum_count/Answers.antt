use Rattle.std.proofs.Common.{arith}
use Rattle.point_encode.proofs.Sizes.{few_sums}
use Rattle.point_encode.proofs.variables.sum_count.Goals as goal

pub returns-clause-small : goal.returns-clause-small
returns-clause-small c = omega (arith, few_sums c.args.problem.now c.facts.ensures.built, c.sum_count.ensures.places)
