use Rattle.std.proofs.Common.{length, ap, arith}
use Rattle.constraint_set.proofs.Lists.{few_filtered}
use Rattle.constraint_set.specs.Readers.{is_sum_at}
use Rattle.constraint_set.proofs.shape.Shape.sum_count.Goals as goal

pub overflow_cast-result : goal.overflow_cast-result
overflow_cast-result c =
    let articulations = c.self.inside.articulations.items in
    omega (arith, few_filtered (is_sum_at articulations) (length articulations), ap length c.self.invariant.sums_are, c.self.invariant.few)
