use Rattle.std.proofs.Common.{refl, arith}
use Rattle.std.proofs.lemmas.List.{take_more_same}
use Rattle.rcc5_core.specs.declared.Rel.TheVariants.{Equals}
use Rattle.point_pool.proofs.alike.common_len.Goals as goal

pub loop-count-preserved : goal.loop-count-preserved
loop-count-preserved c =
    let one = c.loop-count-test.ensures.one refl in
    let other = c.loop-count-test.ensures.other refl in
    record {
      one = omega (arith, one);
      other = omega (arith, other);
      same = take_more_same c.args.one.now c.args.other.now c.loop-count.count Equals one other c.loop-count.invariant.same (c.loop-count-test.ensures.same refl);
    }
