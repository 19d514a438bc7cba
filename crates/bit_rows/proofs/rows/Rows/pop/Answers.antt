use Rattle.std.proofs.Common.{◌-◌, ◌<◌, sym, subst, arith}
use Rattle.bit_rows.specs.Rows.{IsPopped}
use Rattle.bit_rows.specs.contracts.rows.Rows.{the_view}
use Rattle.bit_rows.proofs.RowBits.{popped}
use Rattle.bit_rows.proofs.rows.Rows.pop.Goals as goal

pub returns : goal.returns
returns c =
    let s = c.self.inside in
    let some : 0 < s.count = subst (λ v. 0 < v.count) (sym c.self.view_is) c.requires in
    subst (λ v. IsPopped v (the_view (record { words = c.truncate.new.self; width = s.width; count = s.count - 1 }))) c.self.view_is
    (popped (the_view s) c.truncate.new.self.items (s.count - 1) c.self.invariant (omega arith) c.truncate.ensures.items)
