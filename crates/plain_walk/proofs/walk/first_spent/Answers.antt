use Rattle.std.proofs.Common.{◌≡◌, ◌+◌, ◌||◌, false, ap, ◌∙◌, sym, arith}
use Rattle.std.specs.Prelude.{if◌then◌else◌}
use Rattle.std.proofs.lemmas.Bool.{or_from}
use Rattle.world_model.specs.Trial.{is_world_by_trial, is_reached}
use Rattle.plain_walk.proofs.PlainWalk.{spent_step}
use Rattle.plain_walk.proofs.walk.first_spent.Goals as goal
use Rattle.plain_walk.proofs.walk.first_spent.Goals.{then-branch, else-branch}

pub loop-passed-preserved : goal.loop-passed-preserved
loop-passed-preserved c =
    let below : (is_reached c.args.limits.0 c.loop-passed.passed || is_reached c.args.limits.1 c.loop-passed.worlds) ≡ false =
    or_from (is_reached c.args.limits.0 c.loop-passed.passed) (is_reached c.args.limits.1 c.loop-passed.worlds)
    (sym c.is_reached.ensures ∙ c.if-is_reached.false) (sym c.is_reached-else-is_reached.ensures ∙ c.if-is_reached-2.false) in
    let next : c.if-branch.worlds ≡ (if is_world_by_trial c.args.problem.now c.index-nodes-passed.result then c.loop-passed.worlds + 1 else c.loop-passed.worlds) =
    elim c.if-branch.branch [
      | then-branch w ↦ w.worlds-is ∙ sym (ap (λ b. if b then c.loop-passed.worlds + 1 else c.loop-passed.worlds) (sym c.in_ok-is_world.ensures ∙ w.if-branch.true))
      | else-branch w ↦ w.worlds-is ∙ sym (ap (λ b. if b then c.loop-passed.worlds + 1 else c.loop-passed.worlds) (sym c.in_ok-is_world.ensures ∙ w.if-branch.false))
    ] in
    record {
      counted = elim c.if-branch.branch [ then-branch w ↦ omega arith | else-branch w ↦ omega arith ];
      same = sym (spent_step c.args.problem.now c.args.limits.0 c.args.limits.1 c.loop-passed.passed c.loop-passed.worlds c.if-branch.worlds c.args.nodes.now c.index-nodes-passed.result
          c.loop-passed-test.true c.index-nodes-passed.is below next) ∙ c.loop-passed.invariant.same;
    }
