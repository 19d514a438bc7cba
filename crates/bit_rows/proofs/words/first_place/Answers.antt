use Rattle.std.proofs.Common.{arith, get_or, refl}
use Rattle.bit_rows.proofs.WordBits.{first_here, zero_more}
use Rattle.bit_rows.proofs.words.first_place.Goals as goal

pub loop-i-preserved : goal.loop-i-preserved
loop-i-preserved c = record { none = zero_more c.args.row.now c.loop-i.i c.loop-i.invariant.none c.if-word-ne0.false }

pub returns-then-word-ne0 : goal.returns-then-word-ne0
returns-then-word-ne0 c =
    let row = c.args.row.now in
    let i = c.loop-i.i in
    first_here row i (get_or row i 0) c.in_ok-place.place refl c.if-word-ne0.true (c.type_inv.row i).fits c.loop-i.invariant.none (omega (arith, c.in_ok-place.ensures, c.in_ok-from.ensures))
