use Rattle.std.proofs.Common.{sym, ap, ◌∙◌, subst, arith}
use Rattle.bit_rows.specs.Rows.{BitRows}
use Rattle.point_frames.specs.declared.base.Base.{Base}
use Rattle.point_frames.specs.Joined.{joined, StandsOn, HasFirst}
use Rattle.point_frames.proofs.Joined.{joined_whole}
use Rattle.point_frames.proofs.frame.Frame.new.Goals as goal

pub invariant_of-result : goal.invariant_of-result
invariant_of-result c =
    let own = c.in_ok-own.own in
    let first = c.in_ok-own.ensures in
    let made = c.in_ok-new.ensures in
    subst (λ (base : Base). StandsOn own base) (sym c.in_ok-base.ensures.ok)
    (record { laid = (omega (arith, first.width, c.requires.0), omega (arith, first.counted)); width = ap (λ (rows : BitRows). rows.width) made.rows ∙ sym first.width; grouped = made.grouped })

pub returns : goal.returns
returns c =
    let rows = c.args.rows in
    let own = c.in_ok-own.own in
    subst (λ (shared : BitRows). HasFirst rows (joined own shared) rows.count) (sym (ap (λ (base : Base). base.rows) c.in_ok-base.ensures.ok ∙ c.in_ok-new.ensures.rows))
    (joined_whole rows own c.requires.1 c.in_ok-own.ensures)
