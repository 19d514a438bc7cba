use Rattle.std.proofs.Common.{◌≡◌, ◌∙◌, ◌++◌, ◌<◌, ◌≤◌, ℕ, List, min, take, get_or, length, ap, sym, subst, arith, length-take}
use Rattle.std.proofs.lemmas.List.{get_or-take}
use Rattle.learn_solver.specs.declared.learner.Learner.{Learner}
use Rattle.learn_solver.specs.Guides.{AssumptionsState, IsMarked, by_trail, holding_by, lowered}
use Rattle.learn_solver.specs.Learners.{guide_of, Reuses}
use Rattle.learn_solver.proofs.StepInvariant.{Keeps, IsLearner-moved, GoesTo-kept}
use Rattle.learn_solver.proofs.AssumptionsInvariant.{IsMarked-lowered, IsMarked-assumptions, holding-lowered}
use Rattle.learn_solver.proofs.learner.Learner.ask.Goals as goal

-- the first levels begin with one of the first assumptions, also where no more levels are known
first-lowered : (old new : AssumptionsState) (level agreed : ℕ) → new ≡ lowered old level → ((k : ℕ) → k < level → holding_by old k < agreed) → (k : ℕ) → k < new.guided → holding_by new k < agreed
first-lowered old new level agreed lowers first k lt =
    let guided = ap (λ (a : AssumptionsState). a.guided) lowers in
    let one : min k level ≡ k = omega arith in
    let same : holding_by new k ≡ holding_by old k = ap (λ (a : AssumptionsState). holding_by a k) lowers ∙ holding-lowered old level k ∙ ap (holding_by old) one in
    let few = first k (omega arith) in
    omega arith

-- two lists that agree in their first elements, read there
same-first : (old now new : List ℕ) (agreed n k : ℕ) → take agreed old ≡ take agreed now → new ≡ take n now → agreed ≤ n → k < agreed → get_or new k 0 ≡ get_or old k 0
same-first old now new agreed n k same is le lt =
    ap (λ (xs : List ℕ). get_or xs k 0) is
    ∙ get_or-take n now k 0 (omega arith)
    ∙ sym (get_or-take agreed now k 0 lt)
    ∙ ap (λ (xs : List ℕ). get_or xs k 0) (sym same)
    ∙ get_or-take agreed old k 0 lt

pub reuse_trail-requires-clause-marked : goal.reuse_trail-requires-clause-marked
reuse_trail-requires-clause-marked c =
    let lowers = c.lower.ensures in
    let marked : IsMarked (by_trail c.args.self.now.trail c.lower.new.self) = subst (λ (a : AssumptionsState). IsMarked (by_trail c.args.self.now.trail a)) (sym lowers) (IsMarked-lowered (guide_of c.args.self.now) c.level_of_first-level.result c.requires.sound.guided.marked) in
    let told = c.set-noted.ensures.agreed in
    let n = told.0 in
    let more = told.1 in
    let most = told.2 in
    let is = told.3 in
    let size : length c.set-noted.new.self.lits ≡ n = ap length is ∙ (simp length-take (omega arith)) in
    let lits = ap (λ (a : AssumptionsState). a.lits) lowers in
    subst (λ (a : AssumptionsState). IsMarked (by_trail c.args.self.now.trail a)) (sym c.set-noted.ensures.same)
    (IsMarked-assumptions (by_trail c.args.self.now.trail c.lower.new.self) c.set-noted.new.self.lits c.agreed-agreed.result marked (omega arith)
    (λ k lt. same-first c.args.self.now.assumptions.lits (c.args.assumptions.now ++ c.args.more.now) c.set-noted.new.self.lits c.agreed-agreed.result n k c.agreed-agreed.ensures.same is more lt ∙ ap (λ (xs : List ℕ). get_or xs k 0) (sym lits))
    (first-lowered c.args.self.now.assumptions c.lower.new.self c.level_of_first-level.result c.agreed-agreed.result lowers c.level_of_first-level.ensures.first))

-- clauses, variables and lines stay
reuses-kept : (old new : Learner) (told : AssumptionsState) → Reuses (record old { assumptions = told }) new → Keeps old new
reuses-kept old new told reuses = record {
  records = ap (λ (l : Learner). l.trail.records) reuses.same;
  trail_variables = ap (λ (l : Learner). l.trail.variables) reuses.same;
  variables = ap (λ (l : Learner). l.variables) reuses.same;
  analyzer = ap (λ (l : Learner). l.analyzer) reuses.same;
  order = ap (λ (l : Learner). l.order) reuses.same;
  given = ap (λ (l : Learner). l.given) reuses.same;
  last = ap (λ (l : Learner). l.last) reuses.same;
  waiting = ap (λ (l : Learner). l.waiting.items) reuses.same;
}

pub returns-clause-sound : goal.returns-clause-sound
returns-clause-sound c =
    IsLearner-moved c.args.self.now c.reuse_trail.new.self c.requires.sound
    (reuses-kept c.args.self.now c.reuse_trail.new.self c.set-noted.new.self c.reuse_trail.ensures)
    c.reuse_trail.ensures.guided

pub returns-clause-goes : goal.returns-clause-goes
returns-clause-goes c =
    GoesTo-kept c.args.self.now c.reuse_trail.new.self (reuses-kept c.args.self.now c.reuse_trail.new.self c.set-noted.new.self c.reuse_trail.ensures)
