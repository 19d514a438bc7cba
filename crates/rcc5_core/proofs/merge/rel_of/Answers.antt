use Rattle.std.proofs.Common.{◌≤◌, ◌⊎◌, inl, inr, arith, sym, length, drop, ◌∙◌}
use Rattle.rcc5_core.proofs.Sets.{left_step, right_step, both_step, merge_start, merge_end, all_seen, is_ascending-rest}
use Rattle.rcc5_core.proofs.merge.rel_of.Goals as goal
use Rattle.rcc5_core.proofs.merge.rel_of.Goals.{then-merge-test+else-j-y, else-merge-test}

pub merge-preserved-then-a-b : goal.merge-preserved-then-a-b
merge-preserved-then-a-b c = record {
  in_left = omega arith;
  in_right = omega arith;
  whole = left_step c.merge.left_only c.merge.both c.merge.right_only c.args.x.now c.args.y.now c.merge.i c.merge.j (omega arith) (omega arith) (omega arith) c.merge.invariant.left c.merge.invariant.right ∙ c.merge.invariant.whole;
  left = is_ascending-rest c.args.x.now c.merge.i (omega arith) c.merge.invariant.left;
  right = c.merge.invariant.right;
}

pub merge-preserved-then-b-a : goal.merge-preserved-then-b-a
merge-preserved-then-b-a c = record {
  in_left = omega arith;
  in_right = omega arith;
  whole = right_step c.merge.left_only c.merge.both c.merge.right_only c.args.x.now c.args.y.now c.merge.i c.merge.j (omega arith) (omega arith) (omega arith) c.merge.invariant.left c.merge.invariant.right ∙ c.merge.invariant.whole;
  left = c.merge.invariant.left;
  right = is_ascending-rest c.args.y.now c.merge.j (omega arith) c.merge.invariant.right;
}

pub merge-preserved : goal.merge-preserved
merge-preserved c = record {
  in_left = omega arith;
  in_right = omega arith;
  whole = both_step c.merge.left_only c.merge.both c.merge.right_only c.args.x.now c.args.y.now c.merge.i c.merge.j (omega arith) (omega arith) (omega arith) c.merge.invariant.left c.merge.invariant.right ∙ c.merge.invariant.whole;
  left = is_ascending-rest c.args.x.now c.merge.i (omega arith) c.merge.invariant.left;
  right = is_ascending-rest c.args.y.now c.merge.j (omega arith) c.merge.invariant.right;
}

pub merge-init : goal.merge-init
merge-init c = record {
  in_left = omega arith;
  in_right = omega arith;
  whole = merge_start c.args.x.now c.args.y.now;
  left = c.requires.left;
  right = c.requires.right;
}

pub returns-then-right_only : goal.returns-then-right_only
returns-then-right_only c =
    let seen = all_seen (drop c.merge.i c.args.x.now) (drop c.merge.j c.args.y.now) in
    sym seen ∙ (rw (c.if-left_only.true, c.if-both.true, c.if-right_only.true) at c.merge.invariant.whole)

pub returns : goal.returns
returns c =
    let ended : (length c.args.x.now ≤ c.merge.i) ⊎ (length c.args.y.now ≤ c.merge.j) = elim c.merge-test.branch [
      | then-merge-test+else-j-y w ↦ inr w.if-j-y.false
      | else-merge-test w ↦ inl w.merge-test.false
    ] in
    c.rel_of_regions.ensures ∙
    merge_end c.merge.left_only c.merge.both c.merge.right_only c.args.x.now c.args.y.now c.merge.i c.merge.j ended c.merge.invariant.in_left c.merge.invariant.in_right ∙
    c.merge.invariant.whole
