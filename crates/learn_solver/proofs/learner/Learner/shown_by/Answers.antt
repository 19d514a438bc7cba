use Rattle.std.proofs.Common.{◌∙◌, ◌++◌, ◌∷◌, [], ℕ, ap}
use Rattle.lits_core.specs.declared.Hint.TheVariants.{Falsified, Implies, NotUnit}
use Rattle.learn_solver.proofs.HintChain.{Does-found, HasCome-start, HasCome-next, IsTaught-come, Suffice-come, no-fault, unknown-fault, not_unit-fault, end-fault}
use Rattle.learn_solver.proofs.learner.Learner.shown_by.Goals as goal

pub loop-place-init : goal.loop-place-init
loop-place-init c = HasCome-start c.args.self.now.trail.records c.args.lits.now c.args.hints.now c.in_ok-falses.falses.items c.in_ok-falses.ensures.items

pub returns-in_default-clause-fault : goal.returns-in_default-clause-fault
returns-in_default-clause-fault c =
    unknown-fault c.args.self.now.trail.records c.args.self.now.given c.args.lits.now c.args.hints.now c.loop-place.falses.items c.loop-place.place
    c.requires.sound.records c.loop-place.invariant c.loop-place-test.true c.in_default.ensures.clause

pub returns-in-Falsified-clause-taught : goal.returns-in-Falsified-clause-taught
returns-in-Falsified-clause-taught c =
    let does = Does-found c.args.self.now.trail.records c.args.self.now.given c.args.hints.now c.deref.result.now c.loop-place.falses.items c.loop-place.place c.in-Some.at c.hint_of.result Falsified
    c.requires.sound.records c.loop-place-test.true c.in-Some.ensures.clause.0 c.in-Some.ensures.named c.deref.ensures.value c.hint_of.ensures c.in-Falsified.is in
    IsTaught-come c.args.self.now.trail c.args.lits.now c.args.hints.now c.loop-place.falses.items c.loop-place.place c.in-Some.at c.loop-place.invariant does c.requires.range

pub returns-in-Falsified-clause-shown : goal.returns-in-Falsified-clause-shown
returns-in-Falsified-clause-shown c =
    let does = Does-found c.args.self.now.trail.records c.args.self.now.given c.args.hints.now c.deref.result.now c.loop-place.falses.items c.loop-place.place c.in-Some.at c.hint_of.result Falsified
    c.requires.sound.records c.loop-place-test.true c.in-Some.ensures.clause.0 c.in-Some.ensures.named c.deref.ensures.value c.hint_of.ensures c.in-Falsified.is in
    no-fault c.args.self.now.trail.records c.args.self.now.given c.args.lits.now c.args.hints.now c.loop-place.falses.items c.loop-place.place c.in-Some.at c.requires.sound.records c.loop-place.invariant does

pub returns-in-Falsified-clause-enough : goal.returns-in-Falsified-clause-enough
returns-in-Falsified-clause-enough c =
    let does = Does-found c.args.self.now.trail.records c.args.self.now.given c.args.hints.now c.deref.result.now c.loop-place.falses.items c.loop-place.place c.in-Some.at c.hint_of.result Falsified
    c.requires.sound.records c.loop-place-test.true c.in-Some.ensures.clause.0 c.in-Some.ensures.named c.deref.ensures.value c.hint_of.ensures c.in-Falsified.is in
    Suffice-come c.args.self.now.trail.records c.args.self.now.given c.args.lits.now c.args.hints.now c.loop-place.falses.items c.loop-place.place c.in-Some.at c.requires.sound.records c.loop-place.invariant does

pub returns-in-NotUnit-clause-fault : goal.returns-in-NotUnit-clause-fault
returns-in-NotUnit-clause-fault c =
    let does = Does-found c.args.self.now.trail.records c.args.self.now.given c.args.hints.now c.deref.result.now c.loop-place.falses.items c.loop-place.place c.in-Some.at c.hint_of.result NotUnit
    c.requires.sound.records c.loop-place-test.true c.in-Some.ensures.clause.0 c.in-Some.ensures.named c.deref.ensures.value c.hint_of.ensures c.in-NotUnit.is in
    not_unit-fault c.args.self.now.trail.records c.args.self.now.given c.args.lits.now c.args.hints.now c.loop-place.falses.items c.loop-place.place c.in-Some.at c.requires.sound.records c.loop-place.invariant does

pub loop-place-preserved : goal.loop-place-preserved
loop-place-preserved c =
    let does = Does-found c.args.self.now.trail.records c.args.self.now.given c.args.hints.now c.deref.result.now c.loop-place.falses.items c.loop-place.place c.in-Some.at c.hint_of.result (Implies c.in-Implies.lit)
    c.requires.sound.records c.loop-place-test.true c.in-Some.ensures.clause.0 c.in-Some.ensures.named c.deref.ensures.value c.hint_of.ensures c.in-Implies.is in
    HasCome-next c.args.self.now.trail.records c.args.lits.now c.args.hints.now c.loop-place.falses.items c.push.new.self.items c.loop-place.place c.in-Some.at c.in-Implies.lit c.loop-place.invariant does
    (c.in_ok-push-in-Implies.ensures.items ∙ ap (λ (l : ℕ). c.loop-place.falses.items ++ l ∷ []) c.negate.ensures)

pub returns-clause-fault : goal.returns-clause-fault
returns-clause-fault c =
    end-fault c.args.self.now.trail.records c.args.self.now.given c.args.lits.now c.args.hints.now c.loop-place.falses.items c.loop-place.place
    c.requires.sound.records c.loop-place.invariant c.loop-place-test.false
