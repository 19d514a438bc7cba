use Rattle.std.proofs.Common.{◌∙◌, ap, arith}
use Rattle.std.proofs.lemmas.Result.{err_from_is_err_and}
use Rattle.cleantax_text.specs.Whole.{with_two}
use Rattle.cleantax_text.proofs.TextLemmas.{short_reading}
use Rattle.cleantax_text.proofs.text.read_text.Goals as goal

pub returns-in_err-reader-clause-fault : goal.returns-in_err-reader-clause-fault
returns-in_err-reader-clause-fault c =
    let p = err_from_is_err_and c.from_residual.result c.from_residual.ensures.1 in
    rw (p.1, p.2) (λ named. short_reading c.args.bytes.now (omega arith) ∙ ap with_two (c.in_err-reader.ensures.fault named))
