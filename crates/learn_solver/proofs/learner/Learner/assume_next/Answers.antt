use Rattle.std.proofs.Common.{◌≡◌, ◌∙◌, ℕ, List, true, false, Option, Some, sym, ap, subst, arith, inl, inr}
use Rattle.std.specs.Prelude.{is_some}
use Rattle.lits_core.specs.Literals.{negation_of, variable_of}
use Rattle.lits_core.proofs.LiteralLemmas.{negation-negation}
use Rattle.std.proofs.lemmas.Bool.{true≢false}
use Rattle.std.specs.List.{Contains}
use Rattle.watch_arena.specs.Places.{value_of, is_true, is_false}
use Rattle.watch_arena.specs.Trails.{TrailState}
use Rattle.learn_solver.specs.declared.learner.Learner.{Learner}
use Rattle.learn_solver.specs.Solving.{IsRefutation}
use Rattle.learn_solver.specs.Learners.{solver_state, guide_of}
use Rattle.learn_solver.proofs.TrailPlaces.{value-some, true-or-false}
use Rattle.learn_solver.proofs.AssumptionsInvariant.{guided-all}
use Rattle.learn_solver.proofs.Conflicts.{IsRefutation-guided, false-implied, next-assumptions}
use Rattle.learn_solver.proofs.learner.Learner.assume_next.Goals as goal

-- a literal that has a place and is not true is false
valued : (t : TrailState) (lit : ℕ) → is_some (value_of t.places (variable_of lit)) ≡ true → is_true t.places lit ≡ false → is_false t.places lit ≡ true
valued t lit some open_lit =
    let at = value-some t.places (variable_of lit) some in
    elim (true-or-false t.places at.0 lit at.1 at.2) [
      | inl on ↦ absurd (true≢false (sym on ∙ open_lit))
      | inr off ↦ off
    ]

pub analyze_final_lit-requires-clause-false_there : goal.analyze_final_lit-requires-clause-false_there
analyze_final_lit-requires-clause-false_there c =
    let value = c.value.ensures ∙ ap (value_of c.args.self.now.trail.places) c.variable.ensures.value in
    valued c.args.self.now.trail c.args.lit (ap is_some (sym value) ∙ sym c.is_some.ensures ∙ c.if-is_some.true) c.requires.open

pub analyze_final_lit-requires-clause-implied : goal.analyze_final_lit-requires-clause-implied
analyze_final_lit-requires-clause-implied c =
    let value = c.value.ensures ∙ ap (value_of c.args.self.now.trail.places) c.variable.ensures.value in
    let off = valued c.args.self.now.trail c.args.lit (ap is_some (sym value) ∙ sym c.is_some.ensures ∙ c.if-is_some.true) c.requires.open in
    false-implied c.args.self.now c.args.lit c.facts.ensures c.requires.sound c.requires.consistent c.requires.next off

-- the literal that is let stand is the negation of the assumption
stood : (assumptions : List ℕ) (lit other : ℕ) → Contains assumptions lit → ◌≡◌ {A = Option ℕ} (Some (negation_of lit)) (Some other) → Contains assumptions (negation_of other)
stood assumptions lit other has e =
    let same : negation_of lit ≡ other = cc in
    subst (λ (l : ℕ). Contains assumptions l) (sym (negation-negation lit) ∙ ap negation_of same) has

pub returns-then-is_some-clause-served : goal.returns-then-is_some-clause-served
returns-then-is_some-clause-served c =
    let now = c.in_ok-id.ensures.kept.level in
    let all = guided-all (guide_of c.args.self.now) c.requires.sound.guided c.requires.next.within in
    let guided : c.analyze_final_lit.new.self.assumptions.guided ≡ c.args.self.now.assumptions.guided = ap (λ (l : Learner). l.assumptions.guided) c.in_ok-id.ensures.same in
    let assumptions = c.in_ok-id.ensures.steps.assumptions in
    let has = subst (λ (assumptions : List ℕ). Contains assumptions c.args.lit) (sym assumptions) (next-assumptions c.args.self.now c.args.lit c.requires.next) in
    subst (λ (assumptions : List ℕ). IsRefutation (solver_state c.analyze_final_lit.new.self) assumptions c.in_ok-id.id) assumptions
    (IsRefutation-guided c.analyze_final_lit.new.self (Some (negation_of c.args.lit)) c.in_ok-id.id c.in_ok-id.ensures.steps.sound c.facts-then-is_some.ensures (omega arith) (λ lit stands. stood c.analyze_final_lit.new.self.assumptions.lits c.args.lit lit has stands) c.in_ok-id.ensures.closed)
