use Rattle.std.proofs.Common.{◌≡◌, ◌+◌, subst, sym, length}
use Rattle.bit_rows.specs.Rows.{has_bit, IsPushed}
use Rattle.bit_rows.specs.contracts.rows.Rows.{the_view}
use Rattle.bit_rows.proofs.RowBits.{pushed_copy}
use Rattle.bit_rows.proofs.rows.Rows.push_copy.Goals as goal

pub returns : goal.returns
returns c =
    let s = c.self.inside in
    let long : length c.args.row.now ≡ s.width = subst (λ v. length c.args.row.now ≡ v.width) (sym c.self.view_is) c.requires.width in
    subst (λ v. IsPushed v (the_view (record { words = c.extend_from_slice.new.self; width = s.width; count = s.count + 1 })) (has_bit c.args.row.now)) c.self.view_is
    (pushed_copy (the_view s) c.args.row.now c.extend_from_slice.new.self.items c.self.invariant long c.in_ok-extend_from_slice.ensures.items)
