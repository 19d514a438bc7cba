use Rattle.std.proofs.Common.{◌∙◌, List, length, Some, refl, sym, ap, arith}
use Rattle.lits_core.specs.Literals.{negation_of, variable_of}
use Rattle.lits_core.proofs.LiteralLemmas.{variable_of-negation}
use Rattle.clause_arena.specs.Records.{Record, record_at}
use Rattle.learn_solver.proofs.StepInvariant.{Steps-refl, Steps-kept, IsLearner-kept}
use Rattle.learn_solver.proofs.TaughtClauses.{IsClosed-stored}
use Rattle.learn_solver.proofs.Reasons.{reason-live}
use Rattle.learn_solver.proofs.TrailPlaces.{true-index}
use Rattle.learn_solver.proofs.learner.Learner.analyze_final_lit.Goals as goal

pub reason-requires : goal.reason-requires
reason-requires c =
    let found = true-index c.args.self.now.trail.places (negation_of c.args.lit) c.requires.false_there in
    let range = c.facts.ensures.places_in_range found.0 found.1 in
    let is = ap variable_of found.2 in
    let same = variable_of-negation c.args.lit in
    let value = c.variable.ensures.value in
    omega arith

pub is_closed-requires : goal.is_closed-requires
is_closed-requires c = reason-live c.args.self.now.trail c.variable.result c.in-Some.at c.facts.ensures (sym c.reason.ensures ∙ c.in-Some.is)

pub id_of-requires : goal.id_of-requires
id_of-requires c =
    let lt = reason-live c.args.self.now.trail c.variable.result c.in-Some.at c.facts.ensures (sym c.reason.ensures ∙ c.in-Some.is) in
    let same = ap length c.arena.ensures in
    omega arith

pub returns-then-is_closed-clause-steps : goal.returns-then-is_closed-clause-steps
returns-then-is_closed-clause-steps c = Steps-refl c.args.self.now c.requires.sound

pub returns-in_err-closing-clause-steps : goal.returns-in_err-closing-clause-steps
returns-in_err-closing-clause-steps c = Steps-kept _ _ c.requires.sound (record { records = refl; trail_variables = refl; variables = refl; analyzer = c.analyze_final_lit.ensures.kept; order = refl; given = refl; last = refl; waiting = refl }) refl

pub add_derived-requires-clause-sound : goal.add_derived-requires-clause-sound
add_derived-requires-clause-sound c = IsLearner-kept _ _ c.requires.sound (record { records = refl; trail_variables = refl; variables = refl; analyzer = c.analyze_final_lit.ensures.kept; order = c.bump.ensures; given = refl; last = refl; waiting = refl }) refl

pub returns-clause-closed : goal.returns-clause-closed
returns-clause-closed c =
    IsClosed-stored c.args.self.now.trail c.add_derived.new.self.trail (Some (negation_of c.args.lit)) c.in_ok-closing.closing.lits c.in_ok-closing.closing.hints c.in_ok-noted.noted c.id_of-2.result
    c.in_ok-closing.ensures.closing c.in_ok-noted.ensures.kept c.in_ok-noted.ensures.stored
    (ap (λ (records : List Record). (record_at records c.in_ok-noted.noted).id) (sym c.arena-2.ensures) ∙ sym c.id_of-2.ensures)
