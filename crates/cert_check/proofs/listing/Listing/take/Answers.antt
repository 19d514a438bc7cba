use Rattle.std.proofs.Common.{sym, subst}
use Rattle.cert_check.specs.Checkers.{stand_of, IsStep}
use Rattle.cert_check.proofs.listing.Listing.take.Goals as goal

pub returns-in-End-clause-step : goal.returns-in-End-clause-step
returns-in-End-clause-step c =
    subst (λ line. IsStep c.args.self.now.walk.tree (stand_of c.args.book.now c.args.self.now) line (stand_of c.args.book.now c.take_end.new.self) c.take_end.result)
    (sym c.in-End.is) (c.take_end.ensures.step c.args.book.now)
