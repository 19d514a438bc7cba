use Rattle.std.proofs.Common.{arith}
use Rattle.report_run.proofs.AskLemmas.{none_more, one_first}
use Rattle.report_run.proofs.asked.place_of.Goals as goal

pub loop-place-init : goal.loop-place-init
loop-place-init g c = record { none = λ k d less. absurd (omega (arith, less)) }

pub loop-place-preserved : goal.loop-place-preserved
loop-place-preserved g c =
    none_more c.args.watchers.now _ c.args.kind.now c.loop-place.place c.index-watchers-place.result c.is_called.result c.loop-place.invariant (omega arith) c.index-watchers-place.is c.is_called.ensures c.if-is_called.false

pub returns-then-is_called : goal.returns-then-is_called
returns-then-is_called g c =
    one_first c.args.watchers.now _ c.args.kind.now c.loop-place.place c.index-watchers-place.result c.is_called.result c.loop-place.invariant (omega arith) c.index-watchers-place.is c.is_called.ensures c.if-is_called.true

pub returns : goal.returns
returns g c = λ k d less. c.loop-place.invariant.none k d (omega arith)
