use Rattle.std.proofs.Common.{◌≡◌, ◌≤◌, ◌+◌, ◌-◌, ◌^◌, ◌++◌, false, length}
use Rattle.proof_text.specs.Laws.{has_byte}
use Rattle.cert_reader.specs.Bytes.{MayCome, GoesOn}
use Rattle.cert_reader.proofs.gather.gather.Given as goal

-- the line and the bytes to come are what was to come, and no call failed so far
abbrev pub invariant-loop-line : goal.invariant-loop-line
invariant-loop-line g l = record {
  bytes : GoesOn (MayCome l.fn.blocks (g.R.Source.left l.fn.source)) (MayCome l.blocks (g.R.Source.left l.source)) (λ old rest. old ≡ l.line.items ++ rest);
  no_lf : has_byte 10 l.line.items ≡ false;
  short : l.spot.place + length l.line.items ≤ 2 ^ 36;
  front : length l.fn.blocks ≤ length l.line.items + length l.blocks;
  faults : g.R.Source.faults l.source ≡ g.R.Source.faults l.fn.source;
  steady : g.R.Source.steady l.fn.source l.source;
  quiet : g.R.Source.quiet l.fn.source l.source;
}

-- each turn but the last brings bytes, and there is room for few
abbrev pub decreases-loop-line : goal.decreases-loop-line
decreases-loop-line g l = 2 ^ 37 - (length l.line.items + length l.blocks)
