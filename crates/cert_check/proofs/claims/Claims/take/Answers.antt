use Rattle.std.proofs.Common.{rules}
use Rattle.cert_check.proofs.claims.Claims.take.Goals as goal

pub returns-in-None-clause-step : goal.returns-in-None-clause-step
returns-in-None-clause-step c = let step = c.take_outside.ensures.step c.args.book.now in search rules
