use Rattle.std.proofs.Common.{Ok, ap, sym, ◌∙◌}
use Rattle.desk_run.specs.Script.Script.{script_result}
use Rattle.desk_run.proofs.AskLemmas.{script_of, without_script}
use Rattle.desk_run.proofs.asked.requests_under.Goals as goal

pub returns-in-Ok-clause-requests : goal.returns-in-Ok-clause-requests
returns-in-Ok-clause-requests g c =
    script_of c.args.problem.now ((g.S.Store.state c.args.store.now).held c.args.name.now) c.in_ok-script.script.items (Ok c.in-Ok.requests.items)
    c.in_ok-script.ensures.front (ap (script_result c.args.problem.now) (sym c.deref.ensures.value) ∙ c.in-Ok.ensures.requests)

pub returns-clause-ended : goal.returns-clause-ended
returns-clause-ended g c =
    without_script c.args.problem.now c.args.name.now c.in_ok-script.script.items c.deref.result.now c.in-Err.status
    (g.S.Store.state c.args.store.now) (g.S.Store.state c.script_bytes.new.store)
    c.in_ok-script.ensures.front c.deref.ensures.value c.in_ok-script.ensures.quiet c.in-Err.ensures.ended
