use Rattle.std.proofs.Common.{rules, ap}
use Rattle.check_run.proofs.CheckLemmas.{accepted_left, not_accepted_over}
use Rattle.check_run.proofs.checking.accepted_under.Goals as goal

pub returns-in-Ok-clause-accepted : goal.returns-in-Ok-clause-accepted
returns-in-Ok-clause-accepted g c = accepted_left c.args.problem.now _ _ c.in-Ok.accepted c.new-reader.ensures.left c.in-Ok.ensures.answer

pub returns-in-Err-clause-ended : goal.returns-in-Err-clause-ended
returns-in-Err-clause-ended g c =
    not_accepted_over g.S.Store.state c.args.problem.now c.args.cert.now _ c.in-Err.fault c.status_of.result c.args.store.now _ c.new-reader.result c.check.new.source
    c.status_of.ensures (search rules) c.new-reader.ensures.store (ap (λ name. name.now) c.new-reader.ensures.name) c.in-Err.ensures.source.comes.0 c.new-reader.ensures.left
    c.in-Err.ensures.answer c.in-Err.ensures.source.fault c.in-Err.ensures.source.still
