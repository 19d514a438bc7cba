use Rattle.std.proofs.Common.{sym, ◌∙◌, arith}
use Rattle.bit_rows.specs.Rows.{has_bit, bit_in}
use Rattle.bit_rows.proofs.RowBits.{shown_common}
use Rattle.point_frames.proofs.Frames.{needless_by_must, needless_by_other}
use Rattle.point_frames.proofs.builder.is_needless.Goals as goal

pub returns-then-have_common : goal.returns-then-have_common
returns-then-have_common c = λ h some s.
    let rows = c.args.rows.now in
    needless_by_must rows c.args.last some (shown_common (has_bit c.row.result.now) (has_bit c.row-row.result.now) (bit_in rows 1) (bit_in rows c.args.last) c.row.ensures.bits c.row-row.ensures.bits (c.have_common.ensures.0 c.if-have_common.true)) s

pub returns-then-is_inside : goal.returns-then-is_inside
returns-then-is_inside c = λ h some s.
    let rows = c.args.rows.now in
    let two = c.first_compared-other.ensures in
    let from = c.loop-other.auto.other in
    needless_by_other rows c.args.last c.loop-other.other some (omega arith) c.loop-other-test.true
    (λ k e. sym (c.row-row.ensures.bits k) ∙ c.is_inside.ensures.0 c.if-is_inside.true k (c.row-then-may_be_inside.ensures.bits k ∙ e)) s
