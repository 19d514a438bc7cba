use Rattle.std.proofs.Common.{Err, ap, sym, subst, ◌∙◌}
use Rattle.command_line.specs.Requests.{desk_names}
use Rattle.desk_run.specs.Answering.{IsDeskAnswer}
use Rattle.desk_run.specs.Steps.{IsAsked, IsServedOut}
use Rattle.desk_run.proofs.EndLemmas.{run_early, run_served, run_refused, run_starved}
use Rattle.desk_run.proofs.running.run_desk.Goals as goal

pub returns-in-Err : goal.returns-in-Err
returns-in-Err g c =
    run_early (desk_names c.args.args.now) (IsDeskAnswer c.args.args.now) c.in-Err.status c.put_desk_end.result
    (g.S.Store.state c.args.store.now)
    (g.S.Store.state c.asked_of.new.store)
    (g.W.Sink.state c.args.out.now) (g.W.Sink.state c.put_desk_end.new.out)
    c.in-Err.ensures.kept c.in-Err.ensures.ended c.put_desk_end.ensures.put

pub returns-in-Ok-serve_all : goal.returns-in-Ok-serve_all
returns-in-Ok-serve_all g c =
    run_served c.args.args.now c.in-Ok.asked.problem c.deref.result.now
    (g.S.Store.state c.args.store.now)
    (g.S.Store.state c.asked_of.new.store)
    (g.W.Sink.state c.args.out.now)
    (subst (IsAsked c.args.args.now (g.S.Store.state c.args.store.now).held c.in-Ok.asked.problem) (sym c.deref.ensures.value) c.in-Ok.ensures.asked)
    c.in-Ok.ensures.quiet c.in-Ok.ensures.kept
    (g.W.Sink.state c.serve_all.new.out)
    (subst (λ r. IsServedOut c.in-Ok.asked.problem c.deref.result.now r (g.W.Sink.state c.args.out.now) (g.W.Sink.state c.serve_all.new.out)) c.in-Ok-serve_all.is c.serve_all.ensures)

pub returns-in-Err-Failed : goal.returns-in-Err-Failed
returns-in-Err-Failed g c =
    run_refused c.args.args.now c.in-Ok.asked.problem c.deref.result.now
    (g.S.Store.state c.args.store.now)
    (g.S.Store.state c.asked_of.new.store)
    (g.W.Sink.state c.args.out.now)
    (subst (IsAsked c.args.args.now (g.S.Store.state c.args.store.now).held c.in-Ok.asked.problem) (sym c.deref.ensures.value) c.in-Ok.ensures.asked)
    c.in-Ok.ensures.quiet c.in-Ok.ensures.kept
    (g.W.Sink.state c.serve_all.new.out)
    (subst (λ r. IsServedOut c.in-Ok.asked.problem c.deref.result.now r (g.W.Sink.state c.args.out.now) (g.W.Sink.state c.serve_all.new.out))
    (c.in-Err-Failed.is ∙ ap Err c.in-Err-Failed.field-0-is) c.serve_all.ensures)

pub returns : goal.returns
returns g c =
    run_starved c.args.args.now c.in-Ok.asked.problem c.deref.result.now
    (g.S.Store.state c.args.store.now)
    (g.S.Store.state c.asked_of.new.store)
    (g.W.Sink.state c.args.out.now)
    (subst (IsAsked c.args.args.now (g.S.Store.state c.args.store.now).held c.in-Ok.asked.problem) (sym c.deref.ensures.value) c.in-Ok.ensures.asked)
    c.in-Ok.ensures.quiet c.in-Ok.ensures.kept
    c.put_desk_end-in-Err-NoMemory.result
    (g.W.Sink.state c.serve_all.new.out)
    (g.W.Sink.state c.put_desk_end-in-Err-NoMemory.new.out)
    (subst (λ r. IsServedOut c.in-Ok.asked.problem c.deref.result.now r (g.W.Sink.state c.args.out.now) (g.W.Sink.state c.serve_all.new.out))
    (c.in-Err-NoMemory.is ∙ ap Err c.in-Err-NoMemory.field-0-is) c.serve_all.ensures)
    c.put_desk_end-in-Err-NoMemory.ensures.put
