use Rattle.std.proofs.Common.{ap, ◌∙◌}
use Rattle.std.specs.Prelude.{map, string_bytes}
use Rattle.check_run.proofs.join.JoinLemmas.{joined_as, not_joined_as}
use Rattle.check_run.proofs.join.joining.joined_under.Goals as goal

pub returns-in-Ok-join-clause-joined : goal.returns-in-Ok-join-clause-joined
returns-in-Ok-join-clause-joined g c =
    joined_as c.args.problem.now (map string_bytes c.deref.result.now) c.args.certs.now (g.S.Store.state c.args.store.now).held c.in-Ok-join.joined
    (ap (map string_bytes) c.deref.ensures.value ∙ c.in-Ok.ensures) c.in-Ok-join.ensures.answer

pub returns-clause-ended : goal.returns-clause-ended
returns-clause-ended g c =
    not_joined_as c.args.problem.now (map string_bytes c.deref.result.now) c.args.certs.now c.in-Err.fault c.status_of.result (g.S.Store.state c.args.store.now) (g.S.Store.state c.join.new.store)
    (ap (map string_bytes) c.deref.ensures.value ∙ c.in-Ok.ensures) c.status_of.ensures c.in-Err.ensures.answer c.in-Err.ensures.cause
