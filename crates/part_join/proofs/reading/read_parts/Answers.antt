use Rattle.std.proofs.Common.{rules, arith, subst, sym, ◌+◌}
use Rattle.std.specs.Prelude.{All, string_bytes, map}
use Rattle.std.proofs.lemmas.List.Elements.{All-push}
use Rattle.part_join.specs.Parts.{IsListed}
use Rattle.part_join.proofs.ReadLemmas.{starved_is, step_ended, step_cause, step_read}
use Rattle.part_join.proofs.reading.read_parts.Goals as goal

pub returns-in_err-push-in-Ok-clause-answer : goal.returns-in_err-push-in-Ok-clause-answer
returns-in_err-push-in-Ok-clause-answer g c =
    starved_is c.args.problem.now (g.S.Store.state c.args.store.now).held (map string_bytes c.args.names.now) _ c.from_residual-in_err-push-in-Ok.result (search rules)

pub returns-in_err-checks-clause-answer : goal.returns-in_err-checks-clause-answer
returns-in_err-checks-clause-answer g c =
    starved_is c.args.problem.now (g.S.Store.state c.args.store.now).held (map string_bytes c.args.names.now) _ c.from_residual.result (search rules)

pub returns-in-Err-clause-answer : goal.returns-in-Err-clause-answer
returns-in-Err-clause-answer g c =
    step_ended string_bytes c.args.problem.now c.loop-place.checks (g.S.Store.state c.args.store.now).held (g.S.Store.state c.loop-place.store).held c.args.names.now c.loop-place.place c.index-names-place.result c.as_str.result.now
    c.loop-place.parts.items c.in-Err.fault c.loop-place.invariant.checks (omega arith) c.index-names-place.is c.as_str.ensures.value c.loop-place.invariant.held c.loop-place.invariant.read c.in-Err.ensures.answer

pub returns-in-Err-clause-cause : goal.returns-in-Err-clause-cause
returns-in-Err-clause-cause g c =
    step_cause string_bytes c.in-Err.fault c.args.names.now c.loop-place.place c.index-names-place.result c.as_str.result.now
    (g.S.Store.state c.args.store.now) (g.S.Store.state c.loop-place.store) (g.S.Store.state c.part_under.new.store)
    (omega arith) c.index-names-place.is c.as_str.ensures.value c.loop-place.invariant.quiet c.in-Err.ensures.cause

pub loop-place-preserved : goal.loop-place-preserved
loop-place-preserved g c = record {
  checks = search rules;
  read =
      step_read string_bytes c.args.problem.now c.loop-place.checks (g.S.Store.state c.args.store.now).held (g.S.Store.state c.loop-place.store).held c.args.names.now c.loop-place.place c.index-names-place.result c.as_str.result.now
      (c.loop-place.place + 1) c.loop-place.parts.items c.push.new.self.items c.in-Ok.part c.loop-place.invariant.checks (omega arith) c.index-names-place.is c.as_str.ensures.value c.loop-place.invariant.held c.in_ok-push-in-Ok.ensures.items
      c.loop-place.invariant.read c.in-Ok.ensures.answer;
  listed =
      subst (All (IsListed c.args.problem.now)) (sym c.in_ok-push-in-Ok.ensures.items)
      (All-push (IsListed c.args.problem.now) c.loop-place.parts.items c.in-Ok.part c.loop-place.invariant.listed
      (subst (λ p. IsListed p c.in-Ok.part) c.loop-place.invariant.checks c.in-Ok.ensures.listed));
  held = search rules;
  quiet = search rules;
}
