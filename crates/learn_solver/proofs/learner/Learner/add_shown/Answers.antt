use Rattle.std.proofs.Common.{◌∙◌, List, ap}
use Rattle.clause_arena.specs.Records.{Record, record_at}
use Rattle.learn_solver.proofs.StepInvariant.{Steps-refl}
use Rattle.learn_solver.proofs.HintChain.{live-stored}
use Rattle.learn_solver.proofs.learner.Learner.add_shown.Goals as goal

pub returns-in_err-clause-clause-steps : goal.returns-in_err-clause-clause-steps
returns-in_err-clause-clause-steps c = Steps-refl c.args.self.now c.requires.sound

pub returns-in_err-from_slice-clause-steps : goal.returns-in_err-from_slice-clause-steps
returns-in_err-from_slice-clause-steps c = Steps-refl c.args.self.now c.requires.sound

pub returns-clause-stored : goal.returns-clause-stored
returns-clause-stored c =
    live-stored c.add_derived.new.self c.args.lits.now c.in_ok-clause.clause c.in_ok-at.at c.id_of.result c.in_ok-at.ensures.steps.sound c.in_ok-at.ensures.stored c.in_ok-clause.ensures
    (c.id_of.ensures ∙ ap (λ (records : List Record). (record_at records c.in_ok-at.at).id) c.arena.ensures)
