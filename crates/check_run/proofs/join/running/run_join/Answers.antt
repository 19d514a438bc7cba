use Rattle.std.proofs.Common.{rules, Ok}
use Rattle.run_ends.proofs.EndLemmas.{run_early, run_done, run_refused, run_starved}
use Rattle.check_run.specs.Join.Answering.{IsJoinAnswer, join_names}
use Rattle.check_run.proofs.join.JoinLemmas.{carried}
use Rattle.check_run.proofs.join.running.run_join.Goals as goal

pub returns-in-Err : goal.returns-in-Err
returns-in-Err g c =
    run_early (join_names c.args.args.now) (IsJoinAnswer c.args.args.now) c.in-Err.status c.put_end.result
    (g.S.Store.state c.args.store.now)
    (g.S.Store.state c.joined_of.new.store)
    (g.W.Sink.state c.args.out.now) (g.W.Sink.state c.put_end.new.out)
    c.in-Err.ensures.ended c.in-Err.ensures.kept c.put_end.ensures.put

pub returns-in-Ok-put_joined : goal.returns-in-Ok-put_joined
returns-in-Ok-put_joined g c =
    run_done (join_names c.args.args.now) (IsJoinAnswer c.args.args.now) c.in-Ok-put_joined.status
    (g.S.Store.state c.args.store.now)
    (g.S.Store.state c.joined_of.new.store)
    (g.W.Sink.state c.args.out.now) (g.W.Sink.state c.put_joined.new.out)
    (carried c.args.args.now c.in-Ok.joined (Ok c.in-Ok-put_joined.status)
    (g.S.Store.state c.args.store.now)
    (g.S.Store.state c.joined_of.new.store)
    (g.W.Sink.state c.args.out.now) (g.W.Sink.state c.put_joined.new.out)
    c.in-Ok.ensures.joined c.in-Ok.ensures.kept c.in-Ok.ensures.quiet c.in-Ok-put_joined.ensures)

pub returns-in-Err-Failed : goal.returns-in-Err-Failed
returns-in-Err-Failed g c =
    run_refused (join_names c.args.args.now) (IsJoinAnswer c.args.args.now)
    (g.S.Store.state c.args.store.now)
    (g.S.Store.state c.joined_of.new.store)
    (g.W.Sink.state c.args.out.now) (g.W.Sink.state c.put_joined.new.out)
    (carried c.args.args.now c.in-Ok.joined _
    (g.S.Store.state c.args.store.now)
    (g.S.Store.state c.joined_of.new.store)
    (g.W.Sink.state c.args.out.now) (g.W.Sink.state c.put_joined.new.out)
    c.in-Ok.ensures.joined c.in-Ok.ensures.kept c.in-Ok.ensures.quiet (search rules))

pub returns : goal.returns
returns g c =
    run_starved (join_names c.args.args.now) (IsJoinAnswer c.args.args.now) c.put_end-in-Err-NoMemory.result
    (g.S.Store.state c.args.store.now)
    (g.S.Store.state c.joined_of.new.store)
    (g.W.Sink.state c.args.out.now) (g.W.Sink.state c.put_joined.new.out) (g.W.Sink.state c.put_end-in-Err-NoMemory.new.out)
    (carried c.args.args.now c.in-Ok.joined _
    (g.S.Store.state c.args.store.now)
    (g.S.Store.state c.joined_of.new.store)
    (g.W.Sink.state c.args.out.now) (g.W.Sink.state c.put_joined.new.out)
    c.in-Ok.ensures.joined c.in-Ok.ensures.kept c.in-Ok.ensures.quiet (search rules))
    c.put_end-in-Err-NoMemory.ensures.put
