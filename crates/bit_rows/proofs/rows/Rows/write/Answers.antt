use Rattle.std.proofs.Common.{◌*◌, ◌<◌, ◌≤◌, ◌∙◌, length, ap, sym, subst, arith, bit_and}
use Rattle.bit_rows.specs.Rows.{word_bit, IsPut, meets_at}
use Rattle.bit_rows.specs.contracts.rows.Rows.{the_view}
use Rattle.bit_rows.proofs.RowBits.{writing_starts, writing_more, written, row_room, common_past}
use Rattle.bit_rows.proofs.WordBits.{meets_by}
use Rattle.bit_rows.proofs.rows.Rows.write.Goals as goal

pub loop-i-init : goal.loop-i-init
loop-i-init c = writing_starts (the_view c.self.inside) c.args.row (meets_at c.args.one.now c.args.other.now c.args.sides.now.left.now c.args.sides.now.right.now c.args.cells)

pub invariant_of-self : goal.invariant_of-self
invariant_of-self c =
    let w = c.loop-i.invariant in
    w.counted ∙ c.self.invariant ∙ ap (λ n. n * c.self.inside.width) (sym w.count) ∙ ap (λ n. c.loop-i.self-inside.count * n) (sym w.width)

pub loop-i-preserved : goal.loop-i-preserved
loop-i-preserved c =
    let w = c.loop-i.invariant in
    let one = c.args.one.now in
    let other = c.args.other.now in
    let left = c.args.sides.now.left.now in
    let right = c.args.sides.now.right.now in
    let small : c.args.row < c.self.inside.count = subst (λ v. c.args.row < v.count) (sym c.self.view_is) c.requires.row in
    let room = row_room (the_view c.self.inside) c.args.row c.loop-i.i c.self.invariant small c.loop-i-test.true in
    let counted = w.counted in
    writing_more (the_view c.self.inside) (the_view c.loop-i.self-inside) c.args.row c.loop-i.i (bit_and (bit_and c.word_at.result c.word_at-in-loop-i.result) c.word.result)
    (meets_at one other left right c.args.cells) w (omega arith)
    (λ b h.
    ap (λ x. word_bit (bit_and (bit_and x c.word_at-in-loop-i.result) c.word.result) b) c.word_at.ensures ∙
    sym (meets_by one other left right c.args.cells c.loop-i.i c.word_at-in-loop-i.result c.word_at-in-loop-i-2.result c.word_at-in-loop-i-3.result c.word.result
    (record { other_is = c.word_at-in-loop-i.ensures; left_is = c.word_at-in-loop-i-2.ensures; right_is = c.word_at-in-loop-i-3.ensures; in_cells_is = c.word.ensures }) b h))

pub returns : goal.returns
returns c =
    let auto = c.loop-i.auto in
    let done = c.loop-i-test.false in
    let width : length c.args.one.now ≤ c.self.inside.width = subst (λ v. length c.args.one.now ≤ v.width) (sym c.self.view_is) c.requires.width in
    subst (λ v. IsPut v (the_view c.loop-i.self-inside) c.args.row (meets_at c.args.one.now c.args.other.now c.args.sides.now.left.now c.args.sides.now.right.now c.args.cells)) c.self.view_is
    (written (the_view c.self.inside) (the_view c.loop-i.self-inside) c.args.row c.loop-i.i (meets_at c.args.one.now c.args.other.now c.args.sides.now.left.now c.args.sides.now.right.now c.args.cells)
    c.loop-i.invariant (omega arith)
    (common_past c.args.one.now c.args.other.now c.args.sides.now.left.now c.args.sides.now.right.now c.args.cells c.self.inside.width width))
