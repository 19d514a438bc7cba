use Rattle.std.proofs.Common.{rules, Ok}
use Rattle.run_ends.proofs.ReadLemmas.{one_state}
use Rattle.run_ends.proofs.EndLemmas.{run_early, run_done, run_refused, run_starved}
use Rattle.listing_run.specs.Output.{listing_names, IsListingAnswer}
use Rattle.listing_run.proofs.EndLemmas.{listing_carried}
use Rattle.listing_run.proofs.running.run_listing.Goals as goal

pub returns-in-Err : goal.returns-in-Err
returns-in-Err g c =
    run_early (listing_names c.args.args.now) (IsListingAnswer c.args.args.now) c.in-Err.status c.put_end.result
    (g.S.Store.state c.args.store.now)
    (g.S.Store.state c.plan_of.new.store)
    (g.W.Sink.state c.args.out.now) (g.W.Sink.state c.put_end.new.out)
    c.in-Err.ensures.ended c.in-Err.ensures.kept c.put_end.ensures.put

pub returns-in-Ok-carry_out : goal.returns-in-Ok-carry_out
returns-in-Ok-carry_out g c =
    run_done (listing_names c.args.args.now) (IsListingAnswer c.args.args.now) c.in-Ok-carry_out.status
    (g.S.Store.state c.args.store.now)
    (g.S.Store.state c.carry_out.new.store)
    (g.W.Sink.state c.args.out.now) (g.W.Sink.state c.carry_out.new.out)
    (listing_carried c.args.args.now c.in-Ok.plan (Ok c.in-Ok-carry_out.status)
    (g.S.Store.state c.args.store.now)
    (g.S.Store.state c.plan_of.new.store)
    (g.S.Store.state c.carry_out.new.store)
    (g.W.Sink.state c.args.out.now) (g.W.Sink.state c.carry_out.new.out)
    (one_state (g.S.Store.state c.args.store.now) (g.S.Store.state c.plan_of.new.store) c.in-Ok.ensures.kept c.in-Ok.ensures.quiet)
    c.in-Ok.ensures.plan c.in-Ok-carry_out.ensures)

pub returns-in-Err-Failed : goal.returns-in-Err-Failed
returns-in-Err-Failed g c =
    run_refused (listing_names c.args.args.now) (IsListingAnswer c.args.args.now)
    (g.S.Store.state c.args.store.now)
    (g.S.Store.state c.carry_out.new.store)
    (g.W.Sink.state c.args.out.now) (g.W.Sink.state c.carry_out.new.out)
    (listing_carried c.args.args.now c.in-Ok.plan _
    (g.S.Store.state c.args.store.now)
    (g.S.Store.state c.plan_of.new.store)
    (g.S.Store.state c.carry_out.new.store)
    (g.W.Sink.state c.args.out.now) (g.W.Sink.state c.carry_out.new.out)
    (one_state (g.S.Store.state c.args.store.now) (g.S.Store.state c.plan_of.new.store) c.in-Ok.ensures.kept c.in-Ok.ensures.quiet)
    c.in-Ok.ensures.plan (search rules))

pub returns : goal.returns
returns g c =
    run_starved (listing_names c.args.args.now) (IsListingAnswer c.args.args.now) c.put_end-in-Err-NoMemory.result
    (g.S.Store.state c.args.store.now)
    (g.S.Store.state c.carry_out.new.store)
    (g.W.Sink.state c.args.out.now) (g.W.Sink.state c.carry_out.new.out) (g.W.Sink.state c.put_end-in-Err-NoMemory.new.out)
    (listing_carried c.args.args.now c.in-Ok.plan _
    (g.S.Store.state c.args.store.now)
    (g.S.Store.state c.plan_of.new.store)
    (g.S.Store.state c.carry_out.new.store)
    (g.W.Sink.state c.args.out.now) (g.W.Sink.state c.carry_out.new.out)
    (one_state (g.S.Store.state c.args.store.now) (g.S.Store.state c.plan_of.new.store) c.in-Ok.ensures.kept c.in-Ok.ensures.quiet)
    c.in-Ok.ensures.plan (search rules))
    c.put_end-in-Err-NoMemory.ensures.put
