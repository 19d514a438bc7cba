use Rattle.std.proofs.Common.{◌∙◌}
use Rattle.point_frames.proofs.Joined.{first_none, first_more}
use Rattle.point_frames.proofs.base.first_rows.Goals as goal

pub loop-row-init : goal.loop-row-init
loop-row-init c = first_none c.args.rows.now c.new-first.result c.new-first.ensures.count (c.new-first.ensures.width ∙ c.width.ensures)

pub loop-row-preserved : goal.loop-row-preserved
loop-row-preserved c = first_more c.args.rows.now c.loop-row.first c.push_copy.new.self c.loop-row.row _ c.loop-row.invariant c.in_ok-push_copy.ensures c.row.ensures.bits
