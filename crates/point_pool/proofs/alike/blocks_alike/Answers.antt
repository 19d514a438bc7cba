use Rattle.std.proofs.Common.{refl}
use Rattle.rcc5_core.specs.declared.Rel.TheVariants.{Equals}
use Rattle.point_pool.proofs.Sameness.{alike_more}
use Rattle.point_pool.proofs.alike.blocks_alike.Goals as goal

pub loop-count-preserved : goal.loop-count-preserved
loop-count-preserved c =
    let one = c.loop-count-test.ensures.one refl in
    let other = c.loop-count-test.ensures.other refl in
    record {
      one = one;
      other = other;
      same = alike_more 64 c.args.one.now c.args.other.now c.loop-count.count Equals one other c.loop-count.invariant.same (c.loop-count-test.ensures.same refl);
    }
