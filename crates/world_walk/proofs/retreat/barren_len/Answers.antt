use Rattle.std.proofs.Common.{◌+◌, ◌-◌, ◌/◌, length, take, ap, ◌∙◌, subst, arith, rules}
use Rattle.point_ladder.specs.Ladders.{LadderState, BeginsNone}
use Rattle.world_walk.proofs.retreat.barren_len.Goals as goal

pub loop-low-init : goal.loop-low-init
loop-low-init c =
    record {
      same = c.in_ok-is_barren.ensures.same;
      within = omega (arith, ap length c.path-high.ensures);
      barren = c.in_ok-is_barren.ensures.none (search rules);
    }

pub loop-low-preserved-then-branch : goal.loop-low-preserved-then-branch
loop-low-preserved-then-branch c =
    let kept = c.loop-low.invariant in
    let mid = c.loop-low.low + (c.loop-low.high - c.loop-low.low) / 2 in
    record {
      same = c.in_ok-is_barren-2.ensures.same ∙ kept.same;
      within = omega (arith, kept.within, c.loop-low-test.true);
      barren = subst (λ (l : LadderState). BeginsNone l.problem (take mid l.path)) kept.same (c.in_ok-is_barren-2.ensures.none (search rules));
    }
