use Rattle.std.proofs.Common.{rules}
use Rattle.listing_run.proofs.part.PutLemmas.{carried, stopped}
use Rattle.listing_run.proofs.part.putting.put_part.Goals as goal

pub returns : goal.returns
returns g c =
    carried c.end_part.result c.args.plan.now c.args.cert.now c.in_ok-listed.listed.stop c.in_ok-listed.listed.count
    (g.S.Store.state c.args.store.now)
    (g.S.Store.state c.put_certified.new.store)
    (g.W.Sink.state c.args.out.now)
    (g.W.Sink.state c.put_certified.new.out)
    (g.W.Sink.state c.end_part.new.out)
    c.requires c.in_ok-listed.ensures c.end_part.ensures.ended c.end_part.ensures.put

pub returns-in_err-listed : goal.returns-in_err-listed
returns-in_err-listed g c =
    stopped c.from_residual.result _ c.args.plan.now c.args.cert.now
    (g.S.Store.state c.args.store.now)
    (g.S.Store.state c.put_certified.new.store)
    (g.W.Sink.state c.args.out.now)
    (g.W.Sink.state c.put_certified.new.out)
    (search rules) c.requires c.in_err-listed.ensures
