use Rattle.std.proofs.Common.{sym, arith}
use Rattle.claims_run.proofs.KeptLemmas.{counted_kept, counted_dropped, counted_all}
use Rattle.claims_run.proofs.kept_lines.count_kept.Goals as goal
use Rattle.claims_run.proofs.kept_lines.count_kept.Goals.{then-kept-place, else-kept-place}

pub loop-place-preserved : goal.loop-place-preserved
loop-place-preserved c =
    let kept = c.args.kept.now in
    let k = c.loop-place.place in
    let few = c.loop-place.invariant.few in
    elim c.if-kept-place.branch [
      | then-kept-place w ↦ rw w.count-is (record {
        few = omega (arith, few);
        counted = counted_kept kept k c.loop-place.count _ (omega arith) (sym w.if-kept-place.true) c.loop-place.invariant.counted;
      })
      | else-kept-place w ↦ rw w.count-is (record {
        few = omega (arith, few);
        counted = counted_dropped kept k c.loop-place.count _ (omega arith) (sym w.if-kept-place.false) c.loop-place.invariant.counted;
      })
    ]

pub returns : goal.returns
returns c = counted_all c.args.kept.now c.loop-place.place c.loop-place.count (omega arith) c.loop-place.invariant.counted
