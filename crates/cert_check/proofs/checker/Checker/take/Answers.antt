use Rattle.std.proofs.Common.{sym, subst}
use Rattle.cert_check.specs.declared.checker.Checker.TheVariants as kind
use Rattle.cert_check.specs.Whole.{IsTaken}
use Rattle.cert_check.proofs.WholeLemmas.{listing_taken, claims_taken}
use Rattle.cert_check.proofs.checker.Checker.take.Goals as goal

pub returns-in-Listing-clause-step : goal.returns-in-Listing-clause-step
returns-in-Listing-clause-step c =
    subst (λ old. IsTaken c.args.book.now old c.args.line c.args.book.now (kind.Listing c.take.new.self) c.take.result) (sym c.in-Listing.is)
    (listing_taken c.args.book.now c.in-Listing.listing c.take.new.self c.args.line c.take.result c.take.ensures.step c.take.ensures.tree)

pub returns-in-Claims-clause-step : goal.returns-in-Claims-clause-step
returns-in-Claims-clause-step c =
    subst (λ old. IsTaken c.args.book.now old c.args.line c.args.book.now (kind.Claims c.take-in-Claims.new.self) c.take-in-Claims.result) (sym c.in-Claims.is)
    (claims_taken c.args.book.now c.in-Claims.claims c.take-in-Claims.new.self c.args.line c.take-in-Claims.result c.take-in-Claims.ensures.step c.take-in-Claims.ensures.problem)
