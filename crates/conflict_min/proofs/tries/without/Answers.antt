use Rattle.std.proofs.Common.{◌+◌, ◌∙◌, false, set, sym, ap, arith}
use Rattle.conflict_min.specs.Shrinking.{cut}
use Rattle.conflict_min.proofs.Flags.{cut_none, cut_more}
use Rattle.conflict_min.proofs.tries.without.Goals as goal

pub flags-init : goal.flags-init
flags-init c = c.in_ok-tried.ensures.items ∙ sym (cut_none c.args.kept.now c.args.place)

pub flags-preserved : goal.flags-preserved
flags-preserved c =
    let kept = c.args.kept.now in
    let place = c.args.place in
    let nth = c.flags.nth in
    ap (λ flags. set flags (place + nth) false) c.flags.invariant ∙ cut_more kept place nth (omega (arith, c.flags-test.true, c.requires.within)) ∙ ap (cut kept place) (omega arith)
