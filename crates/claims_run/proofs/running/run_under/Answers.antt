use Rattle.std.proofs.Common.{rules, Ok, sym, ◌∙◌}
use Rattle.run_ends.specs.declared.Status.TheVariants as status
use Rattle.run_ends.proofs.ReadLemmas.{one_state}
use Rattle.run_ends.proofs.EndLemmas.{run_early, run_done, run_refused, run_starved}
use Rattle.claims_run.specs.Answering.{IsClaimsAnswer, claims_names}
use Rattle.claims_run.proofs.EndLemmas.{without_problem, with_too_many, question_carried}
use Rattle.claims_run.proofs.running.run_under.Goals as goal

pub returns-in-Err : goal.returns-in-Err
returns-in-Err g c =
    run_early (claims_names c.args.input.now c.args.cert.now) (IsClaimsAnswer c.args.asked c.args.input.now c.args.cert.now c.args.switches) c.in-Err.status c.put_end.result
    (g.S.Store.state c.args.store.now)
    (g.S.Store.state c.problem_under.new.store)
    (g.W.Sink.state c.args.out.now) (g.W.Sink.state c.put_end.new.out)
    (without_problem c.args.asked c.args.input.now c.args.cert.now c.args.switches c.in-Err.status
    (g.S.Store.state c.args.store.now)
    (g.S.Store.state c.problem_under.new.store)
    c.in-Err.ensures.ended) c.in-Err.ensures.kept c.put_end.ensures.put

pub returns-then-has_too_many : goal.returns-then-has_too_many
returns-then-has_too_many g c =
    run_early (claims_names c.args.input.now c.args.cert.now) (IsClaimsAnswer c.args.asked c.args.input.now c.args.cert.now c.args.switches) status.TooMany c.put_end-then-has_too_many.result
    (g.S.Store.state c.args.store.now)
    (g.S.Store.state c.problem_under.new.store)
    (g.W.Sink.state c.args.out.now) (g.W.Sink.state c.put_end-then-has_too_many.new.out)
    (with_too_many c.args.asked c.args.input.now c.args.cert.now c.args.switches c.in-Ok.problem
    (g.S.Store.state c.args.store.now)
    (g.S.Store.state c.problem_under.new.store)
    (sym c.if-has_too_many.true ∙ c.has_too_many.ensures) c.in-Ok.ensures.problem c.in-Ok.ensures.quiet) c.in-Ok.ensures.kept c.put_end-then-has_too_many.ensures.put

pub returns-in-Ok-carry_out : goal.returns-in-Ok-carry_out
returns-in-Ok-carry_out g c =
    run_done (claims_names c.args.input.now c.args.cert.now) (IsClaimsAnswer c.args.asked c.args.input.now c.args.cert.now c.args.switches) c.in-Ok-carry_out.status
    (g.S.Store.state c.args.store.now)
    (g.S.Store.state c.carry_out.new.store)
    (g.W.Sink.state c.args.out.now) (g.W.Sink.state c.carry_out.new.out)
    (question_carried c.args.asked c.args.input.now c.args.cert.now c.args.switches c.in-Ok.problem (Ok c.in-Ok-carry_out.status)
    (g.S.Store.state c.args.store.now)
    (g.S.Store.state c.problem_under.new.store)
    (g.S.Store.state c.carry_out.new.store)
    (g.W.Sink.state c.args.out.now) (g.W.Sink.state c.carry_out.new.out)
    (sym c.if-has_too_many.false ∙ c.has_too_many.ensures) (one_state (g.S.Store.state c.args.store.now) (g.S.Store.state c.problem_under.new.store) c.in-Ok.ensures.kept c.in-Ok.ensures.quiet)
    c.in-Ok.ensures.problem c.in-Ok-carry_out.ensures)

pub returns-in-Err-Failed : goal.returns-in-Err-Failed
returns-in-Err-Failed g c =
    run_refused (claims_names c.args.input.now c.args.cert.now) (IsClaimsAnswer c.args.asked c.args.input.now c.args.cert.now c.args.switches)
    (g.S.Store.state c.args.store.now)
    (g.S.Store.state c.carry_out.new.store)
    (g.W.Sink.state c.args.out.now) (g.W.Sink.state c.carry_out.new.out)
    (question_carried c.args.asked c.args.input.now c.args.cert.now c.args.switches c.in-Ok.problem _
    (g.S.Store.state c.args.store.now)
    (g.S.Store.state c.problem_under.new.store)
    (g.S.Store.state c.carry_out.new.store)
    (g.W.Sink.state c.args.out.now) (g.W.Sink.state c.carry_out.new.out)
    (sym c.if-has_too_many.false ∙ c.has_too_many.ensures) (one_state (g.S.Store.state c.args.store.now) (g.S.Store.state c.problem_under.new.store) c.in-Ok.ensures.kept c.in-Ok.ensures.quiet)
    c.in-Ok.ensures.problem (search rules))

pub returns : goal.returns
returns g c =
    run_starved (claims_names c.args.input.now c.args.cert.now) (IsClaimsAnswer c.args.asked c.args.input.now c.args.cert.now c.args.switches) c.put_end-in-Err-NoMemory.result
    (g.S.Store.state c.args.store.now)
    (g.S.Store.state c.carry_out.new.store)
    (g.W.Sink.state c.args.out.now) (g.W.Sink.state c.carry_out.new.out) (g.W.Sink.state c.put_end-in-Err-NoMemory.new.out)
    (question_carried c.args.asked c.args.input.now c.args.cert.now c.args.switches c.in-Ok.problem _
    (g.S.Store.state c.args.store.now)
    (g.S.Store.state c.problem_under.new.store)
    (g.S.Store.state c.carry_out.new.store)
    (g.W.Sink.state c.args.out.now) (g.W.Sink.state c.carry_out.new.out)
    (sym c.if-has_too_many.false ∙ c.has_too_many.ensures) (one_state (g.S.Store.state c.args.store.now) (g.S.Store.state c.problem_under.new.store) c.in-Ok.ensures.kept c.in-Ok.ensures.quiet)
    c.in-Ok.ensures.problem (search rules))
    c.put_end-in-Err-NoMemory.ensures.put
