use Rattle.std.proofs.Common.{◌≡◌, ◌+◌, ◌≤◌}
use Rattle.text_words.specs.Tokens.{lines_of}
use Rattle.cleantax_text.specs.Reading.{nothing_read, after_lines}
use Rattle.cleantax_text.specs.Kept.{meant, IsKept}
use Rattle.cleantax_text.specs.Whole.{lines_left, length_left}
use Rattle.cleantax_text.proofs.text.read_lines.Given as goal

abbrev pub invariant-loop-rest : goal.invariant-loop-rest
invariant-loop-rest l = record {
  same : after_lines 1 nothing_read (lines_of l.fn.text) ≡ after_lines (l.number + 1) (meant l.reader) (lines_left l.rest);
  kept : IsKept (meant l.reader);
  few : l.number + length_left l.rest ≤ 1048577;
}

abbrev pub decreases-loop-rest : goal.decreases-loop-rest
decreases-loop-rest l = length_left l.rest
