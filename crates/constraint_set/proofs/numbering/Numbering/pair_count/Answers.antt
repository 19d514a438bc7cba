use Rattle.std.proofs.Common.{arith}
use Rattle.constraint_set.proofs.Rows.{few_numbered}
use Rattle.constraint_set.proofs.numbering.Numbering.pair_count.Goals as goal

pub overflow_cast-result : goal.overflow_cast-result
overflow_cast-result c = omega (arith, few_numbered _ _ _ _ _ _ c.self.invariant)
