use Rattle.std.proofs.Common.{rules, Ok, Err}
use Rattle.outer_store.specs.declared.fault.StoreFault.TheVariants.{Failed, NoMemory}
use Rattle.run_ends.specs.declared.Status.TheVariants.{Done}
use Rattle.run_ends.proofs.EndLemmas.{run_early, run_done, run_refused, run_starved}
use Rattle.claims_run.specs.Explain.Answering.{IsExplainAnswer}
use Rattle.claims_run.proofs.explain.EndLemmas.{names, without_problem, without_reason, reason_carried}
use Rattle.claims_run.proofs.explain.running.run_explain.Goals as goal

pub returns-in-Err : goal.returns-in-Err
returns-in-Err g c =
    let args = c.args.args.now in
    let one = g.S.Store.state c.args.store.now in
    let other = g.S.Store.state c.problem_under.new.store in
    let old = g.W.Sink.state c.args.out.now in
    run_early (names args) (IsExplainAnswer args) c.in-Err.status c.put_end.result one other old (g.W.Sink.state c.put_end.new.out)
    (without_problem args c.text.result.now c.in-Err.status one other c.text.ensures c.in-Err.ensures.ended) c.in-Err.ensures.kept c.put_end.ensures.put

pub returns-in-Err-answer : goal.returns-in-Err-answer
returns-in-Err-answer g c =
    let args = c.args.args.now in
    let one = g.S.Store.state c.args.store.now in
    let other = g.S.Store.state c.problem_under.new.store in
    let old = g.W.Sink.state c.args.out.now in
    run_early (names args) (IsExplainAnswer args) c.in-Err-answer.status c.put_end-in-Err-answer.result one other old (g.W.Sink.state c.put_end-in-Err-answer.new.out)
    (without_reason args c.text.result.now c.in-Ok.problem c.in-Err-answer.status one other c.text.ensures c.in-Ok.ensures.problem c.in-Ok.ensures.quiet c.in-Err-answer.ensures.ended) c.in-Ok.ensures.kept
    c.put_end-in-Err-answer.ensures.put

pub returns-in-Ok-put_reason : goal.returns-in-Ok-put_reason
returns-in-Ok-put_reason g c =
    let args = c.args.args.now in
    let one = g.S.Store.state c.args.store.now in
    let other = g.S.Store.state c.problem_under.new.store in
    let old = g.W.Sink.state c.args.out.now in
    let new = g.W.Sink.state c.put_reason.new.out in
    run_done (names args) (IsExplainAnswer args) Done one other old new
    (reason_carried args c.text.result.now c.in-Ok.problem c.in-Ok-answer.kept c.list.result.now (Ok c.in-Ok-put_reason.field-0) one other old new
    c.text.ensures c.list.ensures c.in-Ok.ensures.problem c.in-Ok-answer.ensures.told c.in-Ok.ensures.kept c.in-Ok.ensures.quiet c.in-Ok-put_reason.ensures)

pub returns-in-Err-Failed : goal.returns-in-Err-Failed
returns-in-Err-Failed g c =
    let args = c.args.args.now in
    let one = g.S.Store.state c.args.store.now in
    let other = g.S.Store.state c.problem_under.new.store in
    let old = g.W.Sink.state c.args.out.now in
    let new = g.W.Sink.state c.put_reason.new.out in
    run_refused (names args) (IsExplainAnswer args) one other old new
    (reason_carried {T = Unit {0}} args c.text.result.now c.in-Ok.problem c.in-Ok-answer.kept c.list.result.now (Err Failed) one other old new
    c.text.ensures c.list.ensures c.in-Ok.ensures.problem c.in-Ok-answer.ensures.told c.in-Ok.ensures.kept c.in-Ok.ensures.quiet (search rules))

pub returns : goal.returns
returns g c =
    let args = c.args.args.now in
    let one = g.S.Store.state c.args.store.now in
    let other = g.S.Store.state c.problem_under.new.store in
    let old = g.W.Sink.state c.args.out.now in
    let new = g.W.Sink.state c.put_reason.new.out in
    run_starved (names args) (IsExplainAnswer args) c.put_end-in-Err-NoMemory.result one other old new (g.W.Sink.state c.put_end-in-Err-NoMemory.new.out)
    (reason_carried {T = Unit {0}} args c.text.result.now c.in-Ok.problem c.in-Ok-answer.kept c.list.result.now (Err NoMemory) one other old new
    c.text.ensures c.list.ensures c.in-Ok.ensures.problem c.in-Ok-answer.ensures.told c.in-Ok.ensures.kept c.in-Ok.ensures.quiet (search rules))
    c.put_end-in-Err-NoMemory.ensures.put
