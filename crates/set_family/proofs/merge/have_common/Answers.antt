use Rattle.std.proofs.Common.{inr, arith, sym, ◌∙◌}
use Rattle.rcc5_core.proofs.Sets.{is_ascending-rest}
use Rattle.set_family.proofs.Merges.{common_step_left, common_step_right, common_end}
use Rattle.set_family.proofs.merge.have_common.Goals as goal

pub merge-preserved-then-a-b : goal.merge-preserved-then-a-b
merge-preserved-then-a-b c = record {
  in_left = omega arith;
  in_right = omega arith;
  whole = common_step_left c.args.x.now c.args.y.now c.merge.i c.merge.j (omega arith) (omega arith) (omega arith) c.merge.invariant.right ∙ c.merge.invariant.whole;
  left = is_ascending-rest c.args.x.now c.merge.i (omega arith) c.merge.invariant.left;
  right = c.merge.invariant.right;
}

pub merge-preserved : goal.merge-preserved
merge-preserved c = record {
  in_left = omega arith;
  in_right = omega arith;
  whole = common_step_right c.args.x.now c.args.y.now c.merge.i c.merge.j (omega arith) (omega arith) (omega arith) c.merge.invariant.left ∙ c.merge.invariant.whole;
  left = c.merge.invariant.left;
  right = is_ascending-rest c.args.y.now c.merge.j (omega arith) c.merge.invariant.right;
}

pub returns-else-j-y : goal.returns-else-j-y
returns-else-j-y c = sym (common_end c.args.x.now c.args.y.now c.merge.i c.merge.j (inr c.if-j-y.false)) ∙ c.merge.invariant.whole
