use Rattle.std.proofs.Common.{arith, refl, ◌∙◌}
use Rattle.cert_reader.proofs.GoesOnLemmas.{goes_stays}
use Rattle.cert_reader.proofs.ReaderLemmas.{some_read}
use Rattle.cert_check.proofs.AnswerLemmas.{too_many, answers_on, answers_end, answers_fault}
use Rattle.cert_check.proofs.SourceLemmas.{source_joins, source_ok_as, source_as, source_then_text}
use Rattle.cert_check.proofs.checking.check_rest.Goals as goal

pub loop-read-init : goal.loop-read-init
loop-read-init g c = record {
  ready = c.requires.ready;
  fresh = c.requires.fresh;
  given = refl;
  few = c.requires.few;
  answers = goes_stays _ _ (λ read. refl);
  source = record { fault = refl; later = omega arith; comes = g.met.R.Source.steady_stays c.args.source.now; still = g.met.R.Source.quiet_stays c.args.source.now };
}

pub loop-read-preserved : goal.loop-read-preserved
loop-read-preserved g c =
    let old = c.args.source.now in
    let here = c.loop-read.source in
    let new = c.take_next.new.source in
    record {
      ready = c.in-Ok-Further.ensures.ready;
      fresh = c.in-Ok-Further.ensures.fresh;
      given = c.in-Ok-Further.ensures.given ∙ c.loop-read.invariant.given;
      few = c.in-Ok-Further.ensures.few c.loop-read.invariant.few;
      answers =
          answers_on c.args.book.now c.args.checker c.loop-read.book c.loop-read.checker c.loop-read.read c.loop-read.invariant.answers c.take_next.new.book c.take_next.new.checker c.in-Ok-Further.field-0 c.in-Ok-Further.field-0-is
          c.in-Ok-Further.ensures.turn;
      source =
          source_joins _ _ old here new (g.met.R.Source.steady_joins old here new) (g.met.R.Source.quiet_joins old here new) c.loop-read.invariant.source
          (source_ok_as _ _ here new c.in-Ok-Further.ensures.source);
    }

pub returns-in-Ok-Ended-clause-answer : goal.returns-in-Ok-Ended-clause-answer
returns-in-Ok-Ended-clause-answer g c =
    answers_end c.args.book.now c.args.checker c.loop-read.book c.loop-read.checker c.loop-read.read c.loop-read.invariant.answers c.take_next.new.book c.take_next.new.checker c.in-Ok-Ended.field-0
    c.in-Ok-Ended.to c.finish.result c.in-Ok-Ended.field-0-is c.in-Ok-Ended.ensures.turn c.finish.ensures.answer

pub returns-in-Err-clause-answer : goal.returns-in-Err-clause-answer
returns-in-Err-clause-answer g c =
    answers_fault c.args.book.now c.args.checker c.loop-read.book c.loop-read.checker c.loop-read.read c.loop-read.invariant.answers c.take_next.new.book c.take_next.new.checker c.in-Err.fault
    (some_read c.take_next.new.reader (g.R.Source.left c.take_next.new.source)) c.in-Err.ensures.turn

pub returns-clause-answer : goal.returns-clause-answer
returns-clause-answer g c = too_many c.loop-read.reader (g.R.Source.left c.loop-read.source) c.loop-read.read (omega arith) c.loop-read.invariant.few

pub returns-in-Ok-Ended-clause-source : goal.returns-in-Ok-Ended-clause-source
returns-in-Ok-Ended-clause-source g c =
    let old = c.args.source.now in
    let here = c.loop-read.source in
    let next = c.take_next.new.source in
    let new = c.finish.new.source in
    source_joins _ _ old here new (g.met.R.Source.steady_joins old here new) (g.met.R.Source.quiet_joins old here new) c.loop-read.invariant.source
    (source_joins _ _ here next new (g.met.R.Source.steady_joins here next new) (g.met.R.Source.quiet_joins here next new) c.in-Ok-Ended.ensures.source c.finish.ensures.source)

pub returns-in-Err-clause-source : goal.returns-in-Err-clause-source
returns-in-Err-clause-source g c =
    let old = c.args.source.now in
    let here = c.loop-read.source in
    let new = c.take_next.new.source in
    source_as _ old new
    (source_joins _ _ old here new (g.met.R.Source.steady_joins old here new) (g.met.R.Source.quiet_joins old here new) c.loop-read.invariant.source c.in-Err.ensures.source)

pub returns-clause-source : goal.returns-clause-source
returns-clause-source g c = source_then_text _ _ _ _ c.args.source.now c.loop-read.source c.too_long.ensures c.loop-read.invariant.source
