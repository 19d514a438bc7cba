use Rattle.std.proofs.Common.{sym, ◌∙◌}
use Rattle.std.proofs.lemmas.Bool.{true≢false}
use Rattle.bit_rows.proofs.WordBits.{single_zero, single_first, single_all, zero_more}
use Rattle.bit_rows.proofs.words.has_single.Goals as goal
use Rattle.bit_rows.proofs.words.has_single.Goals.{then-word-ne0+else-found+else-not-is_single, else-word-ne0}

pub loop-word-preserved : goal.loop-word-preserved
loop-word-preserved c =
    let row = c.args.row.now in
    let i = c.loop-word.word-index in
    let before = c.loop-word.invariant in
    elim c.if-word-ne0.branch [
      | then-word-ne0+else-found+else-not-is_single w ↦ record {
        none = λ h. absurd (true≢false (sym w.found-is ∙ h));
        single = single_first row i (before.none w.if-found.false) (w.is_single.ensures w.if-not-is_single.false);
      }
      | else-word-ne0 w ↦ record {
        none = λ h. zero_more row i (before.none (sym w.found-is ∙ h)) w.if-word-ne0.false;
        single = single_zero row i before.single w.if-word-ne0.false;
      }
    ]

pub returns : goal.returns
returns c = λ h. single_all c.args.row.now c.loop-word.word-index c.loop-word.invariant.single c.loop-word-test.false
