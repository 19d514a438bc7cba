use Rattle.std.proofs.Common.{◌≡◌, None, Ok}
use Rattle.cert_reader.specs.Bytes.{GoesOn}
use Rattle.cert_reader.specs.Reader.{MayRead}
use Rattle.cert_check.specs.Answers.{SourceGoes}
use Rattle.cert_check.specs.Whole.{AreFew}
use Rattle.cert_check.proofs.checking.end_reading.Given as goal

-- the lines that are left are few, and end as all of them do
abbrev pub invariant-loop-read : goal.invariant-loop-read
invariant-loop-read g l = record {
  fresh : l.reader.refusal ≡ None;
  few : AreFew l._read (MayRead l.reader (g.R.Source.left l.source));
  ends : GoesOn (MayRead l.fn.reader (g.R.Source.left l.fn.source)) (MayRead l.reader (g.R.Source.left l.source)) (λ all read. all.ends ≡ read.ends);
  source : SourceGoes g.R.Source.faults g.R.Source.steady g.R.Source.quiet (Ok (tt {0})) l.fn.source l.source;
}
