use Rattle.std.proofs.Common.{sym, ap, ◌∙◌, arith}
use Rattle.bit_rows.specs.Rows.{bit_in}
use Rattle.point_frames.proofs.Joined.{joined_own}
use Rattle.point_frames.proofs.frame.Frame.must.Goals as goal

pub returns-clause-bits : goal.returns-clause-bits
returns-clause-bits c = λ k.
    let s = c.self.inside in
    let is = c.self.invariant in
    c.row.ensures.bits k ∙ sym (joined_own s.own s.base.value.rows 1 k (omega (arith, is.laid.1))) ∙ ap (λ rows. bit_in rows 1 k) c.self.view_is
