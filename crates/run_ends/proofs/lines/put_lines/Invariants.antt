use Rattle.std.proofs.Common.{◌≡◌, ◌-◌, length}
use Rattle.run_ends.proofs.PieceLemmas.{ArePutTo}
use Rattle.run_ends.proofs.lines.put_lines.Given as goal

abbrev pub decreases-lines : goal.decreases-lines
decreases-lines g l = length l.text - l.from

abbrev pub invariant-lines : goal.invariant-lines
invariant-lines g l = record {
  put : ArePutTo l.text l.from (g.W.Sink.state l.initial.out).bytes (g.W.Sink.state l.out).bytes;
  faults : (g.W.Sink.state l.out).faults ≡ (g.W.Sink.state l.initial.out).faults;
}
