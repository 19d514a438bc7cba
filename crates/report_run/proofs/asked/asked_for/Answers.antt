use Rattle.std.proofs.Common.{arith}
use Rattle.report_run.proofs.AskLemmas.{asked_first, asked_more, asked_all}
use Rattle.report_run.proofs.asked.asked_for.Goals as goal

pub kinds-init : goal.kinds-init
kinds-init g c = asked_first _ _ c.args.watchers.items c.new-found.result.items c.args.kinds.now c.new-found.ensures.items

pub kinds-preserved : goal.kinds-preserved
kinds-preserved g c =
    asked_more _ _ c.args.watchers.items c.args.kinds.now c.kinds.kind-index c.kind-item.result c.kinds.found.items c.kinds.watchers.items c.move_named.new.found.items c.move_named.new.watchers.items
    c.kinds.invariant (omega arith) c.kind-item.is c.requires c.in_ok-move_named.ensures.moved c.move_named.ensures.others

pub returns : goal.returns
returns g c = asked_all _ _ c.args.watchers.items c.args.kinds.now c.kinds.kind-index c.kinds.found.items c.kinds.watchers.items c.kinds.invariant (omega arith)
