use Rattle.cert_check.proofs.claims.Claims.take_inside.Goals as goal

pub returns-clause-step : goal.returns-clause-step
returns-clause-step c = c.take_other.ensures.step c.args.book.now
