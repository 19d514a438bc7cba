use Rattle.std.proofs.Common.{◌≡◌, ◌+◌, ◌-◌, ◌≤◌, ◌^◌, false, []}
use Rattle.cert_reader.specs.Bytes.{MayCome, GoesOn}
use Rattle.cert_reader.proofs.PassLemmas.{IsGone}
use Rattle.cert_reader.proofs.gather.pass.Given as goal

-- the bytes that are gone and those to come are what was to come, and no call failed so far
abbrev pub invariant-loop-spot : goal.invariant-loop-spot
invariant-loop-spot g l = record {
  bytes : GoesOn (MayCome l.fn.blocks (g.R.Source.left l.fn.source)) (MayCome [] (g.R.Source.left l.source)) (IsGone l.front false l.count);
  empty : l.blocks ≡ [];
  short : l.spot.place + l.count ≤ 2 ^ 36;
  faults : g.R.Source.faults l.source ≡ g.R.Source.faults l.fn.source;
  steady : g.R.Source.steady l.fn.source l.source;
  quiet : g.R.Source.quiet l.fn.source l.source;
}

-- each turn but the last takes bytes off, and there is room for few
abbrev pub decreases-loop-spot : goal.decreases-loop-spot
decreases-loop-spot g l = 2 ^ 37 - l.count
