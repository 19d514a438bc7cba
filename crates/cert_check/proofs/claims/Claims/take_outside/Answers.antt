use Rattle.std.proofs.Common.{sym, subst}
use Rattle.cert_check.specs.Claiming.{claim_stand, IsClaimStep}
use Rattle.cert_check.proofs.claims.Claims.take_outside.Goals as goal

pub returns-in-Holds-clause-step : goal.returns-in-Holds-clause-step
returns-in-Holds-clause-step c proof =
    subst (λ line. IsClaimStep c.args.self.now.problem (claim_stand proof c.args.self.now) line (claim_stand proof c.take_holding.new.self) c.take_holding.result)
    (sym c.in-Holds.is) (c.take_holding.ensures.step proof)

pub returns-in-Fails-clause-step : goal.returns-in-Fails-clause-step
returns-in-Fails-clause-step c proof =
    subst (λ line. IsClaimStep c.args.self.now.problem (claim_stand proof c.args.self.now) line (claim_stand proof c.take_failing.new.self) c.take_failing.result)
    (sym c.in-Fails.is) (c.take_failing.ensures.step proof)
