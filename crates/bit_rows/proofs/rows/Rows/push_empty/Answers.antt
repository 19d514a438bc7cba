use Rattle.std.proofs.Common.{◌≡◌, ◌+◌, ◌-◌, length, subst, arith, false, vec_len}
use Rattle.bit_rows.specs.Rows.{IsPushed}
use Rattle.bit_rows.specs.contracts.rows.Rows.{the_view}
use Rattle.bit_rows.proofs.RowBits.{pushed_empty, filled_up}
use Rattle.bit_rows.proofs.rows.Rows.push_empty.Goals as goal

pub returns : goal.returns
returns c =
    let resized = c.in_ok-resize.ensures in
    let old : vec_len c.self.inside.words ≡ length c.self.inside.words.items = omega (arith, c.self.inside.words.ok) in
    let more = filled_up c.self.inside.words.items c.resize.new.self.items c.in-Some.len (c.in-Some.len - vec_len c.self.inside.words) resized.items (omega (arith, c.in-Some.ensures, c.len.ensures)) in
    subst (λ v. IsPushed v (the_view (record { words = c.resize.new.self; width = c.self.inside.width; count = c.self.inside.count + 1 })) (λ _. false)) c.self.view_is
    (pushed_empty (the_view c.self.inside) c.resize.new.self.items c.self.invariant
    more.0
    more.1)
