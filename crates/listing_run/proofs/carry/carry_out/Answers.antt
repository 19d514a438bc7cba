use Rattle.std.proofs.Common.{rules}
use Rattle.listing_run.proofs.CarryLemmas.{stop_cut, carried, stopped}
use Rattle.listing_run.proofs.carry.carry_out.Goals as goal

pub end_listing-requires-clause-cut : goal.end_listing-requires-clause-cut
end_listing-requires-clause-cut g c = stop_cut c.args.plan.now c.in_ok-listed.listed.stop c.requires.endless c.in_ok-listed.ensures.ok.stop_is

pub returns : goal.returns
returns g c =
    carried c.end_listing.result c.args.plan.now c.args.cert.now c.args.token.now c.in_ok-listed.listed.stop c.in_ok-listed.listed.count
    (g.S.Store.state c.args.store.now)
    (g.S.Store.state c.put_listing.new.store)
    (g.S.Store.state c.end_listing.new.store)
    (g.W.Sink.state c.args.out.now)
    (g.W.Sink.state c.put_listing.new.out)
    (g.W.Sink.state c.end_listing.new.out)
    c.requires.endless c.requires.two c.in_ok-listed.ensures c.end_listing.ensures

pub returns-in_err-listed : goal.returns-in_err-listed
returns-in_err-listed g c =
    stopped c.from_residual.result _ c.args.plan.now c.args.cert.now c.args.token.now
    (g.S.Store.state c.args.store.now)
    (g.S.Store.state c.put_listing.new.store)
    (g.W.Sink.state c.args.out.now)
    (g.W.Sink.state c.put_listing.new.out)
    (search rules) c.requires.endless c.in_err-listed.ensures
