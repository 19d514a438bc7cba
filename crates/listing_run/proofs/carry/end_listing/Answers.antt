use Rattle.std.proofs.Common.{ℕ, List, Option, Some, sym, subst}
use Rattle.listing_run.specs.declared.plan.Stop.{Stop}
use Rattle.listing_run.specs.Steps.{cut_of, IsCutEnded, IsEnded}
use Rattle.listing_run.proofs.CarryLemmas.{ended_cut}
use Rattle.listing_run.proofs.carry.end_listing.Goals as goal

pub returns-in-Cut-Some : goal.returns-in-Cut-Some
returns-in-Cut-Some g c =
    subst (λ (token : Option (List ℕ)). IsEnded c.end_cut.result c.args.plan.now (cut_of c.args.listed.stop) c.args.listed.count token
    (g.S.Store.state c.args.store.now) (g.S.Store.state c.end_cut.new.store)
    (g.W.Sink.state c.args.out.now) (g.W.Sink.state c.end_cut.new.out)) (sym c.in-Cut-Some.is-1)
    (subst (λ (stop : Stop). IsEnded c.end_cut.result c.args.plan.now (cut_of stop) c.args.listed.count (Some c.in-Cut-Some.name)
    (g.S.Store.state c.args.store.now) (g.S.Store.state c.end_cut.new.store)
    (g.W.Sink.state c.args.out.now) (g.W.Sink.state c.end_cut.new.out)) (sym c.in-Cut-Some.is-0)
    (ended_cut c.end_cut.result c.args.plan.now c.in-Cut-Some.cut c.args.listed.count c.in-Cut-Some.name
    (g.S.Store.state c.args.store.now) (g.S.Store.state c.end_cut.new.store)
    (g.W.Sink.state c.args.out.now) (g.W.Sink.state c.end_cut.new.out)
    (subst (λ (name : List ℕ). IsCutEnded c.end_cut.result c.args.plan.now.problem c.in-Cut-Some.cut c.args.listed.count name
    (g.S.Store.state c.args.store.now) (g.S.Store.state c.end_cut.new.store)
    (g.W.Sink.state c.args.out.now) (g.W.Sink.state c.end_cut.new.out)) c.text.ensures c.end_cut.ensures)))
