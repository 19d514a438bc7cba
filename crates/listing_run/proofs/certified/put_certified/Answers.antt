use Rattle.std.proofs.Common.{rules, ap}
use Rattle.listing_run.proofs.ListingLemmas.{partly_nothing}
use Rattle.listing_run.proofs.CertifiedLemmas.{create_refused, listed_over_as}
use Rattle.listing_run.proofs.certified.put_certified.Goals as goal

pub returns-in_err-create : goal.returns-in_err-create
returns-in_err-create g c =
    create_refused (Unit {0}) c.in_err-create.field-0.0 c.from_residual.result c.args.plan.now c.args.name.now
    (g.S.Store.state c.args.store.now)
    (g.S.Store.state c.create.new.self)
    (g.W.Sink.state c.args.out.now)
    c.from_residual.ensures.1 c.in_err-create.ensures.cause c.create.ensures.only_written.others
    (partly_nothing c.args.plan.now c.facts.ensures.built.valid (g.W.Sink.state c.args.out.now).bytes)

pub returns : goal.returns
returns g c =
    listed_over_as g.S.Store.state c.put_to_end.result c.args.plan.now c.args.name.now c.args.store.now c.create.new.self _ c.new-log.result c.put_to_end.new.log
    (g.W.Sink.state c.args.out.now)
    (g.W.Sink.state c.put_to_end.new.out)
    c.facts.ensures.built c.requires (search rules) c.new-log.ensures.store (ap (λ n. n.now) c.new-log.ensures.name) c.new-log.ensures.told c.put_to_end.ensures.none_waits
    c.in_ok-create.ensures.ok c.create.ensures.only_written.others c.in_ok-create.ensures.cause c.put_to_end.ensures.listed
