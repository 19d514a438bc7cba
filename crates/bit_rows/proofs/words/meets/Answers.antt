use Rattle.std.proofs.Common.{refl, arith}
use Rattle.std.proofs.lemmas.Bool.{false≢true}
use Rattle.bit_rows.specs.Rows.{SomePlace, meets_at}
use Rattle.bit_rows.proofs.WordBits.{meets_here, meets_none, meets_more}
use Rattle.bit_rows.proofs.words.meets.Goals as goal

pub returns-then-common-word-ne0 : goal.returns-then-common-word-ne0
returns-then-common-word-ne0 c =
    let some : SomePlace (meets_at c.args.one.now c.args.other.now c.args.sides.now.left.now c.args.sides.now.right.now c.args.cells) =
    meets_here c.args.one.now c.args.other.now c.args.sides.now.left.now c.args.sides.now.right.now c.args.cells c.loop-i.i c.word_at.result c.word_at-in-loop-i.result c.word_at-in-loop-i-2.result c.word.result
    (c.type_inv.one c.loop-i.i).fits (record { other_is = c.word_at.ensures; left_is = c.word_at-in-loop-i.ensures; right_is = c.word_at-in-loop-i-2.ensures; in_cells_is = c.word.ensures }) c.if-common-word-ne0.true in
    (λ h. some, λ h. refl)

pub loop-i-preserved : goal.loop-i-preserved
loop-i-preserved c =
    meets_more c.args.one.now c.args.other.now c.args.sides.now.left.now c.args.sides.now.right.now c.args.cells c.loop-i.i c.word_at.result c.word_at-in-loop-i.result c.word_at-in-loop-i-2.result c.word.result
    (record { other_is = c.word_at.ensures; left_is = c.word_at-in-loop-i.ensures; right_is = c.word_at-in-loop-i-2.ensures; in_cells_is = c.word.ensures }) c.loop-i.invariant c.if-common-word-ne0.false

pub returns : goal.returns
returns c = (λ h. absurd (false≢true h), λ some. absurd (meets_none c.args.one.now c.args.other.now c.args.sides.now.left.now c.args.sides.now.right.now c.args.cells c.loop-i.i c.loop-i.invariant (omega arith) some))
