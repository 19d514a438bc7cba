use Rattle.std.proofs.Common.{sym, ap, ◌∙◌, set, arith}
use Rattle.std.specs.Prelude.{filter}
use Rattle.std.proofs.lemmas.List.Edits.{map_over_more}
use Rattle.point_query.specs.Remembered.{is_live}
use Rattle.point_query.proofs.closings.Closings.keep_live.Goals as goal

pub loop-ids-preserved : goal.loop-ids-preserved
loop-ids-preserved c =
    let kept = filter (is_live c.args.solver.now.state) in
    ap (set c.loop-ids.ids-items c.loop-ids.ids-index) (c.keep_live.ensures ∙ ap kept (sym c.ids-item.is)) ∙
    map_over_more kept c.deref_mut-ids-items.result.now c.loop-ids.ids-items c.loop-ids.ids-index c.ids-item.result (omega arith) c.loop-ids.invariant c.ids-item.is
