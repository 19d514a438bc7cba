use Rattle.std.proofs.Common.{◌≤◌, ◌⊎◌, inl, inr, arith, sym, length, ◌∙◌}
use Rattle.rcc5_core.proofs.Sets.{is_ascending-rest}
use Rattle.set_family.proofs.Merges.{subset_step_lacks, subset_step_right, subset_step_both, subset_end}
use Rattle.set_family.proofs.merge.is_subset.Goals as goal
use Rattle.set_family.proofs.merge.is_subset.Goals.{then-merge-test+else-j-y, else-merge-test}

pub returns-then-a-b : goal.returns-then-a-b
returns-then-a-b c =
    sym (subset_step_lacks c.args.x.now c.args.y.now c.merge.i c.merge.j (omega arith) (omega arith) (omega arith) c.merge.invariant.right) ∙ c.merge.invariant.whole

pub merge-preserved-then-b-a : goal.merge-preserved-then-b-a
merge-preserved-then-b-a c = record {
  in_left = omega arith;
  in_right = omega arith;
  whole = subset_step_right c.args.x.now c.args.y.now c.merge.i c.merge.j (omega arith) (omega arith) (omega arith) c.merge.invariant.left ∙ c.merge.invariant.whole;
  left = c.merge.invariant.left;
  right = is_ascending-rest c.args.y.now c.merge.j (omega arith) c.merge.invariant.right;
}

pub merge-preserved : goal.merge-preserved
merge-preserved c = record {
  in_left = omega arith;
  in_right = omega arith;
  whole = subset_step_both c.args.x.now c.args.y.now c.merge.i c.merge.j (omega arith) (omega arith) (omega arith) c.merge.invariant.left ∙ c.merge.invariant.whole;
  left = is_ascending-rest c.args.x.now c.merge.i (omega arith) c.merge.invariant.left;
  right = is_ascending-rest c.args.y.now c.merge.j (omega arith) c.merge.invariant.right;
}

pub returns : goal.returns
returns c =
    let ended : (length c.args.x.now ≤ c.merge.i) ⊎ (length c.args.y.now ≤ c.merge.j) = elim c.merge-test.branch [
      | then-merge-test+else-j-y w ↦ inr w.if-j-y.false
      | else-merge-test w ↦ inl w.merge-test.false
    ] in
    subset_end c.args.x.now c.args.y.now c.merge.i c.merge.j ended c.merge.invariant.in_left ∙ c.merge.invariant.whole
