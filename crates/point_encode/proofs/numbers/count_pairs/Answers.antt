use Rattle.std.proofs.Common.{arith}
use Rattle.point_encode.proofs.numbers.count_pairs.Goals as goal

pub returns-clause-pairs : goal.returns-clause-pairs
returns-clause-pairs c = omega (arith, c.facts.ensures.pairs, c.pair_count.ensures)
