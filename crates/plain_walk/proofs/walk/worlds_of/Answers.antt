use Rattle.std.proofs.Common.{◌≡◌, Bool, true, false, [], ◌∷◌, ◌++◌, append-nil, ap, ◌∙◌, sym}
use Rattle.world_model.specs.Trial.{is_world_by_trial}
use Rattle.plain_walk.proofs.PlainWalk.{kept_more}
use Rattle.plain_walk.proofs.walk.worlds_of.Goals as goal
use Rattle.plain_walk.proofs.walk.worlds_of.Goals.{then-branch+in_ok-copy+in_ok-push, else-branch}

pub loop-node-preserved : goal.loop-node-preserved
loop-node-preserved c =
    let node = c.node-item.result in
    let more = λ (b : Bool) (same : c.in_ok-is_world.field-0 ≡ b). kept_more (is_world_by_trial c.args.problem.now) c.args.nodes.now c.loop-node.worlds.items c.loop-node.node-index node b
    c.loop-node-test.true c.node-item.is c.loop-node.invariant (sym same ∙ c.in_ok-is_world.ensures) in
    elim c.if-branch.branch [
      | then-branch+in_ok-copy+in_ok-push w ↦
          ap (λ v. v.items) w.worlds-is ∙ w.in_ok-push.ensures.items ∙ ap (λ m. c.loop-node.worlds.items ++ m ∷ []) w.in_ok-copy.ensures ∙ more true w.if-branch.true
      | else-branch w ↦ ap (λ v. v.items) w.worlds-is ∙ sym (append-nil c.loop-node.worlds.items) ∙ more false w.if-branch.false
    ]
