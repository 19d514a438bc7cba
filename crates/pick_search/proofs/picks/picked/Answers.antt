use Rattle.std.proofs.Common.{◌<◌, take, sym, subst}
use Rattle.std.specs.Prelude.{All}
use Rattle.std.proofs.lemmas.List.{take_all, take_more}
use Rattle.pick_search.specs.Picking.{IsPicked}
use Rattle.pick_search.proofs.Narrowing.{more_picked, none_picked, same_count}
use Rattle.pick_search.proofs.picks.picked.Goals as goal

pub narrow_by-requires : goal.narrow_by-requires
narrow_by-requires c = subst (λ n. All (λ pair. pair < n) c.args.pairs.now) (sym (same_count c.args.problem.now c.loop-pick.node c.loop-pick.invariant.shape)) c.requires

pub loop-pick-init : goal.loop-pick-init
loop-pick-init c = none_picked c.args.problem.now c.in_ok-node.node c.args.pairs.now _ c.in_ok-node.ensures

pub loop-pick-preserved : goal.loop-pick-preserved
loop-pick-preserved c =
    subst (λ ps. IsPicked c.args.problem.now c.args.pairs.now ps c.narrow_by.new.node) (sym (take_more c.args.picks.now c.loop-pick.pick-index _ c.loop-pick-test.true))
    (more_picked c.args.problem.now c.loop-pick.node c.narrow_by.new.node c.args.pairs.now (take c.loop-pick.pick-index c.args.picks.now) _ c.loop-pick.invariant c.in_ok-narrow_by.ensures)

pub returns : goal.returns
returns c =
    subst (λ ps. IsPicked c.args.problem.now c.args.pairs.now ps c.loop-pick.node) (take_all c.loop-pick.pick-index c.args.picks.now c.loop-pick-test.false) c.loop-pick.invariant
