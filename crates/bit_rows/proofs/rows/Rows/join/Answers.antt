use Rattle.std.proofs.Common.{◌+◌, ◌*◌, ◌<◌, ◌≤◌, ◌∙◌, length, ap, sym, subst, arith, bit_or}
use Rattle.std.proofs.lemmas.Grind.{get_or_default_zero}
use Rattle.bit_rows.specs.Rows.{word_bit, IsPut}
use Rattle.bit_rows.specs.contracts.rows.Rows.{the_view}
use Rattle.bit_rows.proofs.RowBits.{writing_more, written, row_room, joined_at, joined_word, joined_past}
use Rattle.bit_rows.proofs.rows.Rows.join.Goals as goal

pub loop-i-preserved : goal.loop-i-preserved
loop-i-preserved c =
    let w = c.loop-i.invariant in
    let other = c.args.other.now in
    let small : c.args.row < c.self.inside.count = subst (λ v. c.args.row < v.count) (sym c.self.view_is) c.requires.row in
    let room = row_room (the_view c.self.inside) c.args.row c.loop-i.i c.self.invariant small c.loop-i-test.true in
    let counted = w.counted in
    writing_more (the_view c.self.inside) (the_view c.loop-i.self-inside) c.args.row c.loop-i.i (bit_or c.index_mut.result.now c.word_at.result)
    (joined_at (the_view c.self.inside) c.args.row other) w (omega arith)
    (λ b h.
    ap (λ x. word_bit (bit_or x c.word_at.result) b) (c.index_mut.ensures.value ∙ get_or_default_zero c.loop-i.self-inside.words.items (c.args.row * c.self.inside.width + c.loop-i.i) c.index_mut.result.now (omega arith)) ∙
    joined_word (the_view c.self.inside) (the_view c.loop-i.self-inside) c.args.row c.loop-i.i c.word_at.result other w c.loop-i-test.true c.word_at.ensures b h)

pub returns : goal.returns
returns c =
    let auto = c.loop-i.auto in
    let done = c.loop-i-test.false in
    let other = c.args.other.now in
    let width : length other ≤ c.self.inside.width = subst (λ v. length other ≤ v.width) (sym c.self.view_is) c.requires.width in
    subst (λ v. IsPut v (the_view c.loop-i.self-inside) c.args.row (joined_at v c.args.row other)) c.self.view_is
    (written (the_view c.self.inside) (the_view c.loop-i.self-inside) c.args.row c.loop-i.i (joined_at (the_view c.self.inside) c.args.row other)
    c.loop-i.invariant (omega arith) (joined_past (the_view c.self.inside) c.args.row other width))
