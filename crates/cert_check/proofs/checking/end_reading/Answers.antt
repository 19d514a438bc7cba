use Rattle.std.proofs.Common.{arith, refl}
use Rattle.cert_reader.proofs.GoesOnLemmas.{goes_stays}
use Rattle.cert_reader.proofs.ReaderLemmas.{some_read}
use Rattle.cert_check.proofs.AnswerLemmas.{too_many, ends_on, ends_whole, ends_fault, few_on}
use Rattle.cert_check.proofs.SourceLemmas.{source_joins, source_ok_as, source_as, source_then_text}
use Rattle.cert_check.proofs.checking.end_reading.Goals as goal

pub loop-read-init : goal.loop-read-init
loop-read-init g c = record {
  fresh = c.requires.fresh;
  few = c.requires.few;
  ends = goes_stays _ _ (λ read. refl);
  source = record { fault = refl; later = omega arith; comes = g.met.R.Source.steady_stays c.args.source.now; still = g.met.R.Source.quiet_stays c.args.source.now };
}

pub loop-read-preserved : goal.loop-read-preserved
loop-read-preserved g c =
    let old = c.args.source.now in
    let here = c.loop-read.source in
    let new = c.next_line.new.source in
    record {
      fresh = c.in-Ok-Some.ensures.fresh;
      few = few_on c.loop-read._read c.in-Ok-Some.field-0 _ c.in-Ok-Some.field-0-is c.in-Ok-Some.ensures.answer c.loop-read.invariant.few;
      ends = ends_on c.loop-read.invariant.ends c.in-Ok-Some.field-0 _ c.in-Ok-Some.field-0-is c.in-Ok-Some.ensures.answer;
      source =
          source_joins _ _ old here new (g.met.R.Source.steady_joins old here new) (g.met.R.Source.quiet_joins old here new) c.loop-read.invariant.source
          (source_ok_as _ _ here new c.in-Ok-Some.ensures.source);
    }

pub returns-in-Ok-None-clause-source : goal.returns-in-Ok-None-clause-source
returns-in-Ok-None-clause-source g c =
    let old = c.args.source.now in
    let here = c.loop-read.source in
    let new = c.next_line.new.source in
    source_ok_as _ _ old new
    (source_joins _ _ old here new (g.met.R.Source.steady_joins old here new) (g.met.R.Source.quiet_joins old here new) c.loop-read.invariant.source c.in-Ok-None.ensures.source)

pub returns-in-Err-clause-source : goal.returns-in-Err-clause-source
returns-in-Err-clause-source g c =
    let old = c.args.source.now in
    let here = c.loop-read.source in
    let new = c.next_line.new.source in
    source_as _ old new
    (source_joins _ _ old here new (g.met.R.Source.steady_joins old here new) (g.met.R.Source.quiet_joins old here new) c.loop-read.invariant.source c.in-Err.ensures.source)

pub returns-clause-source : goal.returns-clause-source
returns-clause-source g c = source_then_text _ _ _ _ c.args.source.now c.loop-read.source c.too_long.ensures c.loop-read.invariant.source

pub returns-in-Ok-None-clause-answer : goal.returns-in-Ok-None-clause-answer
returns-in-Ok-None-clause-answer g c =
    ends_whole c.loop-read.invariant.ends c.in-Ok-None.field-0 (some_read c.next_line.new.reader (g.R.Source.left c.next_line.new.source)) c.in-Ok-None.field-0-is c.in-Ok-None.ensures.answer

pub returns-in-Err-clause-answer : goal.returns-in-Err-clause-answer
returns-in-Err-clause-answer g c =
    ends_fault c.loop-read.invariant.ends c.in-Err.fault (some_read c.next_line.new.reader (g.R.Source.left c.next_line.new.source)) c.in-Err.ensures.answer

pub returns-clause-answer : goal.returns-clause-answer
returns-clause-answer g c = too_many c.loop-read.reader (g.R.Source.left c.loop-read.source) c.loop-read._read (omega arith) c.loop-read.invariant.few
