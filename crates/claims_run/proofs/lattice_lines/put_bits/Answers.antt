use Rattle.std.proofs.Common.{arith}
use Rattle.std.proofs.lemmas.Grind.{common_steps}
use Rattle.set_family.proofs.Holding.{drop_got}
use Rattle.claims_run.proofs.lattice_lines.put_bits.Goals as goal

pub loop-index-preserved : goal.loop-index-preserved
loop-index-preserved c = let flag = drop_got c.args.set.now c.loop-index.index c.has.result c.has.ensures in grind (arith, common_steps, flag)
