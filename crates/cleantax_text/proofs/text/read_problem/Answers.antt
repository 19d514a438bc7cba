use Rattle.std.proofs.Common.{◌∙◌, Ok, sym, ap}
use Rattle.cleantax_text.specs.Kept.{meant}
use Rattle.std.proofs.lemmas.Result.{err_from_is_err_and}
use Rattle.cleantax_text.proofs.TextLemmas.{says_problem, says_fault}
use Rattle.cleantax_text.proofs.text.read_problem.Goals as goal

pub returns-clause-problem : goal.returns-clause-problem
returns-clause-problem c =
    says_problem c.args.bytes.now c.args.switches (meant c.in_ok-reader.reader) c.in_ok-reader.ensures.ok ∙ ap Ok (sym c.in_ok-build.ensures.value)

pub returns-in_err-reader-clause-fault : goal.returns-in_err-reader-clause-fault
returns-in_err-reader-clause-fault c =
    let p = err_from_is_err_and c.from_residual.result c.from_residual.ensures.1 in
    rw (p.1, p.2) (λ named. says_fault c.args.bytes.now c.args.switches _ _ (c.in_err-reader.ensures.fault named))

pub returns-in_err-build-clause-fault : goal.returns-in_err-build-clause-fault
returns-in_err-build-clause-fault c =
    let p = err_from_is_err_and c.from_residual-in_err-build.result c.from_residual-in_err-build.ensures.1 in
    rw p.1 (λ named. absurd (named p.2.1))
