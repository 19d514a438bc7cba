use Rattle.std.proofs.Common.{sym, ap, ◌∙◌, ◌%◌, ◌^◌, ◌*◌}
use Rattle.std.proofs.lemmas.Bool.{eqb-true, true≢false}
use Rattle.std.specs.Int.{trailing_zeros, w64}
use Rattle.bit_rows.specs.Rows.{word_bit}
use Rattle.bit_rows.proofs.WordBits.{word_zero, shifted_single}
use Rattle.bit_rows.proofs.words.is_single.Goals as goal

pub returns-then-word-eq0 : goal.returns-then-word-eq0
returns-then-word-eq0 c = λ h i j in_i in_j one other.
    absurd (true≢false (sym one ∙ ap (λ w. word_bit w i) (eqb-true c.args.word 0 h) ∙ word_zero i))

pub returns-else-word-eq0 : goal.returns-else-word-eq0
returns-else-word-eq0 c = λ h i j in_i in_j one other.
    shifted_single c.args.word i j c.if-word-eq0.false c.ranges.word.fits (eqb-true c.args.word (1 * 2 ^ trailing_zeros w64 c.args.word % 2 ^ 64) h) one other
