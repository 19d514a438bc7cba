use Rattle.std.proofs.Common.{rules, Ok, Err, refl, ap}
use Rattle.claims_run.proofs.CertifiedLemmas.{create_refused, settled_over_as}
use Rattle.claims_run.proofs.certified.settle_certified.Goals as goal

pub returns-in_err-create : goal.returns-in_err-create
returns-in_err-create g c =
    create_refused (Unit {0}) c.in_err-create.field-0.0 c.from_residual.result c.args.problem.now c.args.asked c.args.name.now
    (g.S.Store.state c.args.store.now)
    (g.S.Store.state c.create.new.self)
    c.from_residual.ensures.1 c.in_err-create.ensures.cause c.create.ensures.only_written.others

pub returns-in-Ok : goal.returns-in-Ok
returns-in-Ok g c =
    settled_over_as g.S.Store.state (Ok c.in-Ok.answer) (Ok c.in-Ok.answer) c.args.problem.now c.args.asked c.args.name.now
    c.args.store.now c.create.new.self _ c.new-log.result c.tell_to_end.new.log _
    refl (search rules) c.new-log.ensures.store (ap (λ n. n.now) c.new-log.ensures.name) c.new-log.ensures.told c.in-Ok.ensures.none_waits
    c.in_ok-create.ensures.ok c.create.ensures.only_written.others c.in_ok-create.ensures.cause c.in-Ok.ensures.right c.in-Ok.ensures.told c.in-Ok.ensures.log

pub returns : goal.returns
returns g c =
    settled_over_as g.S.Store.state (Err c.in-Err.fault) (Err c.store_fault.result) c.args.problem.now c.args.asked c.args.name.now
    c.args.store.now c.create.new.self _ c.new-log.result c.tell_to_end.new.log _
    (ap Err c.store_fault.ensures.value) (search rules) c.new-log.ensures.store (ap (λ n. n.now) c.new-log.ensures.name) c.new-log.ensures.told tt
    c.in_ok-create.ensures.ok c.create.ensures.only_written.others c.in_ok-create.ensures.cause tt tt c.in-Err.ensures.log
