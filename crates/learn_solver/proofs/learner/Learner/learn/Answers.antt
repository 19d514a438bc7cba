use Rattle.std.proofs.Common.{ℕ, ◌≡◌, ◌∙◌, List, get_or, refl, sym, ap, subst}
use Rattle.lits_core.specs.Literals.{variable_of}
use Rattle.watch_arena.specs.declared.places.Place.{Place}
use Rattle.watch_arena.specs.Places.{place_of}
use Rattle.watch_arena.specs.Trails.{TrailState, IsReason, places_up_to}
use Rattle.learn_solver.specs.declared.learner.Learner.{Learner}
use Rattle.learn_solver.proofs.StepInvariant.{Steps-kept, Steps-trans, Steps-trail, IsLearner-kept}
use Rattle.learn_solver.proofs.TaughtClauses.{first-learnt, first-unassigned, IsReason-learnt}
use Rattle.learn_solver.specs.Guides.{IsGuided, by_trail}
use Rattle.learn_solver.specs.Learners.{guide_of}
use Rattle.learn_solver.proofs.AssumptionsInvariant.{IsGuided-implied}
use Rattle.learn_solver.proofs.learner.Learner.learn.Goals as goal

pub returns-in_err-learnt-clause-steps : goal.returns-in_err-learnt-clause-steps
returns-in_err-learnt-clause-steps c = Steps-kept _ _ c.requires.sound (record { records = refl; trail_variables = refl; variables = refl; analyzer = c.analyze.ensures.kept; order = refl; given = refl; last = refl; waiting = refl }) refl

pub add_derived-requires-clause-sound : goal.add_derived-requires-clause-sound
add_derived-requires-clause-sound c = IsLearner-kept _ _ c.requires.sound (record { records = refl; trail_variables = refl; variables = refl; analyzer = c.analyze.ensures.kept; order = c.bump.ensures; given = refl; last = refl; waiting = refl }) refl

pub imply-requires-clause-unassigned : goal.imply-requires-clause-unassigned
imply-requires-clause-unassigned c =
    let learnt = c.in_ok-learnt.ensures.learnt in
    let lit : ℕ = c.index-lits-0.result in
    let first = first-learnt c.in_ok-learnt.learnt.lits learnt.others learnt.first c.index-lits-0.result learnt.split (c.index-lits-0.is ∙ ap (λ (ls : List ℕ). get_or ls 0 c.index-lits-0.result) c.lits.ensures) in
    let there = first-unassigned c.args.self.now.trail c.in_ok-learnt.learnt.lits c.in_ok-learnt.learnt.hints c.in_ok-learnt.learnt.back learnt c.facts.ensures in
    let places : c.backtrack.new.self.trail.places ≡ places_up_to c.args.self.now.trail.places c.in_ok-learnt.learnt.back =
    ap (λ (l : Learner). l.trail.places) c.backtrack.ensures.back ∙ ap (λ (ps : List Place). places_up_to ps c.in_ok-learnt.learnt.back) c.in_ok-at.ensures.kept.places in
    ap (λ (l : ℕ). place_of c.backtrack.new.self.trail.places (variable_of l)) first ∙ ap (λ (ps : List Place). place_of ps (variable_of learnt.first)) places ∙ there

pub imply-requires-clause-reason : goal.imply-requires-clause-reason
imply-requires-clause-reason c =
    let learnt = c.in_ok-learnt.ensures.learnt in
    let first = first-learnt c.in_ok-learnt.learnt.lits learnt.others learnt.first c.index-lits-0.result learnt.split (c.index-lits-0.is ∙ ap (λ (ls : List ℕ). get_or ls 0 c.index-lits-0.result) c.lits.ensures) in
    let reason = IsReason-learnt c.args.self.now.trail c.add_derived.new.self.trail c.in_ok-learnt.learnt.lits c.in_ok-learnt.learnt.hints c.in_ok-learnt.learnt.back c.in_ok-at.at learnt c.facts.ensures c.in_ok-at.ensures.kept c.in_ok-at.ensures.stored in
    subst (λ (l : ℕ). IsReason c.backtrack.new.self.trail.records c.backtrack.new.self.trail.places l c.in_ok-at.at) (sym first)
    (subst (λ (l : Learner). IsReason l.trail.records l.trail.places learnt.first c.in_ok-at.at) (sym c.backtrack.ensures.back) reason)

pub returns-clause-steps : goal.returns-clause-steps
returns-clause-steps c =
    Steps-trans _ _ _ (Steps-kept c.args.self.now _ c.requires.sound (record { records = refl; trail_variables = refl; variables = refl; analyzer = c.analyze.ensures.kept; order = c.bump.ensures; given = refl; last = refl; waiting = refl }) refl)
    (Steps-trans _ _ _ c.in_ok-at.ensures.steps
    (Steps-trans _ _ _ c.backtrack.ensures.steps
    (Steps-trail c.backtrack.new.self c.imply.new.self c.backtrack.ensures.steps.sound (ap (λ (t : TrailState). t.records) c.imply.ensures) (ap (λ (t : TrailState). t.variables) c.imply.ensures)
    (subst (λ (t : TrailState). IsGuided (by_trail t c.backtrack.new.self.assumptions)) (sym c.imply.ensures) (IsGuided-implied (guide_of c.backtrack.new.self) _ c.backtrack.ensures.steps.sound.guided refl)))))
