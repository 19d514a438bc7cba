use Rattle.std.specs.Prelude.{map, string_bytes}
use Rattle.part_join.proofs.ReadLemmas.{joined_is, swept_cause, joined_not}
use Rattle.part_join.proofs.joining.join.Goals as goal

pub returns-in-Ok-clause-answer : goal.returns-in-Ok-clause-answer
returns-in-Ok-clause-answer g c =
    joined_is c.args.problem.now (g.S.Store.state c.args.store.now).held (map string_bytes c.args.names.now) c.in-Ok.parts.items c.sweep.result
    c.in-Ok.ensures.answer (c.sweep.ensures c.args.problem.now c.in-Ok.ensures.listed)

pub returns-in-Ok-clause-cause : goal.returns-in-Ok-clause-cause
returns-in-Ok-clause-cause g c =
    swept_cause c.args.problem.now c.in-Ok.parts.items c.sweep.result _ _ (c.sweep.ensures c.args.problem.now c.in-Ok.ensures.listed) c.in-Ok.ensures.cause

pub returns-in-Err-clause-answer : goal.returns-in-Err-clause-answer
returns-in-Err-clause-answer g c =
    joined_not c.args.problem.now (g.S.Store.state c.args.store.now).held (map string_bytes c.args.names.now) c.in-Err.fault c.in-Err.ensures.answer

pub returns-in-Err-clause-cause : goal.returns-in-Err-clause-cause
returns-in-Err-clause-cause g c = c.in-Err.ensures.cause
