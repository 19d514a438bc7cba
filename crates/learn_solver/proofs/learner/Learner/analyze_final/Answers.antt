use Rattle.std.proofs.Common.{◌∙◌, List, None, refl, sym, ap}
use Rattle.clause_arena.specs.Records.{Record, record_at}
use Rattle.learn_solver.proofs.StepInvariant.{Steps-refl, Steps-kept, IsLearner-kept}
use Rattle.learn_solver.proofs.TaughtClauses.{IsClosed-stored}
use Rattle.learn_solver.proofs.learner.Learner.analyze_final.Goals as goal

pub returns-then-is_closed-clause-steps : goal.returns-then-is_closed-clause-steps
returns-then-is_closed-clause-steps c = Steps-refl c.args.self.now c.requires.sound

pub returns-in_err-closing-clause-steps : goal.returns-in_err-closing-clause-steps
returns-in_err-closing-clause-steps c = Steps-kept _ _ c.requires.sound (record { records = refl; trail_variables = refl; variables = refl; analyzer = c.analyze_final.ensures.kept; order = refl; given = refl; last = refl; waiting = refl }) refl

pub add_derived-requires-clause-sound : goal.add_derived-requires-clause-sound
add_derived-requires-clause-sound c = IsLearner-kept _ _ c.requires.sound (record { records = refl; trail_variables = refl; variables = refl; analyzer = c.analyze_final.ensures.kept; order = c.bump.ensures; given = refl; last = refl; waiting = refl }) refl

pub returns-clause-closed : goal.returns-clause-closed
returns-clause-closed c =
    IsClosed-stored c.args.self.now.trail c.add_derived.new.self.trail None c.in_ok-closing.closing.lits c.in_ok-closing.closing.hints c.in_ok-noted.noted c.id_of-2.result
    c.in_ok-closing.ensures.closing c.in_ok-noted.ensures.kept c.in_ok-noted.ensures.stored
    (ap (λ (records : List Record). (record_at records c.in_ok-noted.noted).id) (sym c.arena-2.ensures) ∙ sym c.id_of-2.ensures)
