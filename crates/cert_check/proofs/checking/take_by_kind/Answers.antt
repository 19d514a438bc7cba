use Rattle.std.proofs.Common.{sym, subst}
use Rattle.cert_check.specs.Whole.{IsTaken}
use Rattle.cert_check.proofs.checking.take_by_kind.Goals as goal

pub returns-in-Proof-clause-step : goal.returns-in-Proof-clause-step
returns-in-Proof-clause-step c =
    subst (λ line. IsTaken c.args.book.now c.args.checker.now line c.take_proof.new.book c.args.checker.now c.take_proof.result) (sym c.in-Proof.is) (c.take_proof.ensures.taken c.args.checker.now)
