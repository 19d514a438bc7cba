use Rattle.std.proofs.Common.{◌≡◌, None, Ok}
use Rattle.cert_reader.specs.Bytes.{GoesOn}
use Rattle.cert_reader.specs.Reader.{MayRead}
use Rattle.cert_check.specs.Answers.{SourceGoes}
use Rattle.cert_check.specs.Whole.{AreFew, IsReady, answer_from}
use Rattle.cert_check.proofs.checking.check_rest.Given as goal

-- the lines that are left are few, and have the answer of all of them
abbrev pub invariant-loop-read : goal.invariant-loop-read
invariant-loop-read g l = record {
  ready : IsReady l.checker;
  fresh : l.reader.refusal ≡ None;
  given : l.book.given ≡ l.fn.book.given;
  few : AreFew l.read (MayRead l.reader (g.R.Source.left l.source));
  answers : GoesOn (MayRead l.fn.reader (g.R.Source.left l.fn.source)) (MayRead l.reader (g.R.Source.left l.source)) (λ all read. answer_from l.fn.book l.fn.checker 1 all ≡ answer_from l.book l.checker l.read read);
  source : SourceGoes g.R.Source.faults g.R.Source.steady g.R.Source.quiet (Ok (tt {0})) l.fn.source l.source;
}
