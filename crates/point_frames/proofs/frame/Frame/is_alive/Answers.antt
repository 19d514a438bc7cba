use Rattle.std.proofs.Common.{sym, ◌∙◌}
use Rattle.std.proofs.lemmas.Bool.{false≢true}
use Rattle.bit_rows.specs.Rows.{has_bit}
use Rattle.point_frames.proofs.Frames.{not_met, all_open, open_all}
use Rattle.point_frames.proofs.frame.Frame.is_alive.Goals as goal

pub returns-then-not-is_inside : goal.returns-then-not-is_inside
returns-then-not-is_inside c = (
  λ h. absurd (false≢true h),
  λ s. absurd (not_met c.is_inside.result c.if-not-is_inside.true (c.is_inside.ensures.1 (λ k h. c.left-left.ensures.bits k ∙ s.must k (sym (c.must.ensures.bits k) ∙ h)))),
)

pub returns : goal.returns
returns c =
    let rows = c.args.self.now in (
      λ h. record {
        must = λ k e. sym (c.left-left.ensures.bits k) ∙ c.is_inside.ensures.0 c.if-not-is_inside.false k (c.must.ensures.bits k ∙ e);
        open_rows = all_open rows (has_bit c.left-left.result.now) c.all.result c.all.ensures (c.open_met.ensures.0 h);
      },
      λ s. c.open_met.ensures.1 (open_all rows (has_bit c.left-left.result.now) c.all.result c.all.ensures s.open_rows),
    )
