use Rattle.std.proofs.Common.{refl}
use Rattle.listing_run.proofs.ListingLemmas.{partly_nothing}
use Rattle.listing_run.proofs.LoggedLemmas.{log_rests, starved}
use Rattle.listing_run.proofs.listing.put_logged_worlds.Goals as goal

pub returns-in_err-asker : goal.returns-in_err-asker
returns-in_err-asker g c =
    starved _ (tt {0}) c.from_residual.result c.args.plan.now (g.W.Sink.state c.args.out.now) (g.W.Sink.state c.args.out.now) c.args.log.now c.args.log.now
    c.from_residual.ensures.1 (partly_nothing c.args.plan.now c.facts.ensures.built.valid (g.W.Sink.state c.args.out.now).bytes) refl
    (log_rests (tt {0}) c.args.log.now (g.met.L.TreeLog.steady_stays c.args.log.now) (g.met.L.TreeLog.quiet_stays c.args.log.now))

pub returns-in_err-search : goal.returns-in_err-search
returns-in_err-search g c =
    starved _ (tt {0}) c.from_residual-in_err-search.result c.args.plan.now (g.W.Sink.state c.args.out.now) (g.W.Sink.state c.args.out.now) c.args.log.now c.args.log.now
    c.from_residual-in_err-search.ensures.1 (partly_nothing c.args.plan.now c.facts.ensures.built.valid (g.W.Sink.state c.args.out.now).bytes) refl
    (log_rests (tt {0}) c.args.log.now (g.met.L.TreeLog.steady_stays c.args.log.now) (g.met.L.TreeLog.quiet_stays c.args.log.now))
