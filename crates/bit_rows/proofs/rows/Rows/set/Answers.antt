use Rattle.std.proofs.Common.{◌+◌, ◌*◌, ◌/◌, ◌%◌, ◌<◌, ◌∙◌, ◌||◌, set, sym, ap, subst, arith}
use Rattle.std.specs.Prelude.{◌==◌}
use Rattle.std.proofs.lemmas.Grind.{get_or_default_zero}
use Rattle.bit_rows.specs.Rows.{word_bit, bit_in, IsPut}
use Rattle.bit_rows.specs.contracts.rows.Rows.{the_view}
use Rattle.bit_rows.proofs.RowBits.{put_bit, row_room}
use Rattle.bit_rows.proofs.rows.Rows.set.Goals as goal

pub returns : goal.returns
returns c =
    let s = c.self.inside in
    let small : c.args.row < s.count = subst (λ v. c.args.row < v.count) (sym c.self.view_is) c.requires.row in
    let width : c.args.place < 64 * s.width = subst (λ v. c.args.place < 64 * v.width) (sym c.self.view_is) c.requires.within in
    let room = row_room (the_view s) c.args.row (c.args.place / 64) c.self.invariant small (omega arith) in
    subst (λ v. IsPut v (record { count = s.count; width = s.width; words = set s.words.items (c.args.row * s.width + c.args.place / 64) c.with_bit.result }) c.args.row (λ k. bit_in v c.args.row k || (k == c.args.place))) c.self.view_is
    (put_bit (the_view s) c.args.row c.args.place c.with_bit.result room width
    (λ i h. c.with_bit.ensures i h ∙ ap (λ w. word_bit w i || (i == c.args.place % 64)) (c.index.ensures ∙ get_or_default_zero s.words.items (c.args.row * s.width + c.args.place / 64) c.index.result.now room)))
