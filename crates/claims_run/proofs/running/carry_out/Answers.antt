use Rattle.claims_run.proofs.EndLemmas.{settled_done, nothing_settled, part_settled}
use Rattle.claims_run.proofs.PutLemmas.{flagged}
use Rattle.claims_run.proofs.running.carry_out.Goals as goal

pub returns-in_err-answer : goal.returns-in_err-answer
returns-in_err-answer g c =
    nothing_settled c.args.problem.now c.args.asked c.args.cert.now c.in_err-answer.field-0.0 c.from_residual.result
    (g.S.Store.state c.args.store.now)
    (g.S.Store.state c.settled.new.store)
    (g.W.Sink.state c.args.out.now)
    c.from_residual.ensures.1 c.in_err-answer.ensures

pub put_answer-requires : goal.put_answer-requires
put_answer-requires g c = flagged c.args.problem.now c.in_ok-answer.answer c.in_ok-answer.ensures.right.1

pub returns-in_err-put_answer : goal.returns-in_err-put_answer
returns-in_err-put_answer g c =
    part_settled c.args.problem.now c.args.asked c.args.cert.now c.in_ok-answer.answer c.in_err-put_answer.field-0.0 c.from_residual-in_err-put_answer.result
    (g.S.Store.state c.args.store.now)
    (g.S.Store.state c.settled.new.store)
    (g.W.Sink.state c.args.out.now) (g.W.Sink.state c.put_answer.new.out)
    c.from_residual-in_err-put_answer.ensures.1 c.in_ok-answer.ensures c.in_err-put_answer.ensures

pub returns : goal.returns
returns g c =
    settled_done c.args.problem.now c.args.asked c.args.cert.now c.in_ok-answer.answer c.status_of.result
    (g.S.Store.state c.args.store.now)
    (g.S.Store.state c.settled.new.store)
    (g.W.Sink.state c.args.out.now) (g.W.Sink.state c.put_answer.new.out)
    c.in_ok-answer.ensures c.status_of.ensures c.in_ok-put_answer.ensures.ok c.in_ok-put_answer.ensures.cause
