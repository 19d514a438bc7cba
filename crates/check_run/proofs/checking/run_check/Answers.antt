use Rattle.std.proofs.Common.{rules, Ok}
use Rattle.cert_check.specs.Answers.{verdict_of}
use Rattle.run_ends.proofs.EndLemmas.{run_early, run_done, run_refused, run_starved}
use Rattle.check_run.specs.Checking.{IsCheckAnswer, check_names}
use Rattle.check_run.proofs.CheckLemmas.{carried}
use Rattle.check_run.proofs.checking.run_check.Goals as goal

pub returns-in-Err : goal.returns-in-Err
returns-in-Err g c =
    run_early (check_names c.args.input.now c.args.cert.now) (IsCheckAnswer c.args.input.now c.args.cert.now c.args.switches) c.in-Err.status c.put_end.result
    (g.S.Store.state c.args.store.now)
    (g.S.Store.state c.accepted_of.new.store)
    (g.W.Sink.state c.args.out.now) (g.W.Sink.state c.put_end.new.out)
    c.in-Err.ensures.ended c.in-Err.ensures.kept c.put_end.ensures.put

pub returns-in-Ok-put_answer : goal.returns-in-Ok-put_answer
returns-in-Ok-put_answer g c =
    run_done (check_names c.args.input.now c.args.cert.now) (IsCheckAnswer c.args.input.now c.args.cert.now c.args.switches) c.in-Ok-put_answer.status
    (g.S.Store.state c.args.store.now)
    (g.S.Store.state c.accepted_of.new.store)
    (g.W.Sink.state c.args.out.now) (g.W.Sink.state c.put_answer.new.out)
    (carried c.args.input.now c.args.cert.now c.args.switches (verdict_of c.in-Ok.accepted) (Ok c.in-Ok-put_answer.status)
    (g.S.Store.state c.args.store.now)
    (g.S.Store.state c.accepted_of.new.store)
    (g.W.Sink.state c.args.out.now) (g.W.Sink.state c.put_answer.new.out)
    c.in-Ok.ensures.accepted c.in-Ok.ensures.kept c.in-Ok.ensures.quiet c.in-Ok-put_answer.ensures)

pub returns-in-Err-Failed : goal.returns-in-Err-Failed
returns-in-Err-Failed g c =
    run_refused (check_names c.args.input.now c.args.cert.now) (IsCheckAnswer c.args.input.now c.args.cert.now c.args.switches)
    (g.S.Store.state c.args.store.now)
    (g.S.Store.state c.accepted_of.new.store)
    (g.W.Sink.state c.args.out.now) (g.W.Sink.state c.put_answer.new.out)
    (carried c.args.input.now c.args.cert.now c.args.switches (verdict_of c.in-Ok.accepted) _
    (g.S.Store.state c.args.store.now)
    (g.S.Store.state c.accepted_of.new.store)
    (g.W.Sink.state c.args.out.now) (g.W.Sink.state c.put_answer.new.out)
    c.in-Ok.ensures.accepted c.in-Ok.ensures.kept c.in-Ok.ensures.quiet (search rules))

pub returns : goal.returns
returns g c =
    run_starved (check_names c.args.input.now c.args.cert.now) (IsCheckAnswer c.args.input.now c.args.cert.now c.args.switches) c.put_end-in-Err-NoMemory.result
    (g.S.Store.state c.args.store.now)
    (g.S.Store.state c.accepted_of.new.store)
    (g.W.Sink.state c.args.out.now) (g.W.Sink.state c.put_answer.new.out) (g.W.Sink.state c.put_end-in-Err-NoMemory.new.out)
    (carried c.args.input.now c.args.cert.now c.args.switches (verdict_of c.in-Ok.accepted) _
    (g.S.Store.state c.args.store.now)
    (g.S.Store.state c.accepted_of.new.store)
    (g.W.Sink.state c.args.out.now) (g.W.Sink.state c.put_answer.new.out)
    c.in-Ok.ensures.accepted c.in-Ok.ensures.kept c.in-Ok.ensures.quiet (search rules))
    c.put_end-in-Err-NoMemory.ensures.put
