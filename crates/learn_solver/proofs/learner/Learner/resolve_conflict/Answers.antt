use Rattle.std.proofs.Common.{◌≡◌, ◌∙◌, ℕ, List, Option, Some, None, sym, ap, subst, arith}
use Rattle.std.specs.List.{Contains}
use Rattle.clause_arena.specs.Records.{record_at}
use Rattle.watch_arena.specs.Places.{is_false}
use Rattle.watch_arena.specs.Trails.{TrailState, IsConflict, IsTrail}
use Rattle.watch_arena.proofs.ByIndex.{list_all_at}
use Rattle.watch_arena.proofs.WatchedPair.{index_of}
use Rattle.conflict_clause.specs.Taught.{level_in}
use Rattle.learn_solver.specs.declared.learner.Learner.{Learner}
use Rattle.learn_solver.specs.Learners.{solver_state, backtracked, Backjumps}
use Rattle.learn_solver.specs.Solving.{IsRefutation}
use Rattle.learn_solver.proofs.Conflicts.{conflict-back, level-back, Backjumps-lighter, IsRefutation-guided}
use Rattle.learn_solver.proofs.learner.Learner.resolve_conflict.Goals as goal

-- none is not some
none-some : (lit : ℕ) → ◌≡◌ {A = Option ℕ} None (Some lit) → ⊥
none-some lit e = cc

pub learn-requires-clause-conflict : goal.learn-requires-clause-conflict
learn-requires-clause-conflict c =
    let t = c.args.self.now.trail in
    subst (λ (u : TrailState). IsConflict u c.args.at) (sym (ap (λ (l : Learner). l.trail) c.backtrack.ensures.back)) (conflict-back t c.top_level-level.result c.args.at c.facts.ensures c.requires.conflict c.top_level-level.ensures.most)

pub analyze_final-requires-clause-conflict : goal.analyze_final-requires-clause-conflict
analyze_final-requires-clause-conflict c =
    let t = c.args.self.now.trail in
    subst (λ (u : TrailState). IsConflict u c.args.at) (sym (ap (λ (l : Learner). l.trail) c.backtrack.ensures.back)) (conflict-back t c.top_level-level.result c.args.at c.facts.ensures c.requires.conflict c.top_level-level.ensures.most)

pub learn-requires-clause-at_the_level : goal.learn-requires-clause-at_the_level
learn-requires-clause-at_the_level c =
    let t = c.args.self.now.trail in
    let trail = ap (λ (l : Learner). l.trail) c.backtrack.ensures.back in
    let below = c.if-guided-level.true in
    let is = c.guided.ensures in
    let has = c.top_level-level.ensures.has (omega arith) in
    let lit = has.0 in
    let index = index_of (record_at t.records c.args.at).lits lit has.1 in
    let false_there = ap (is_false t.places) (sym index.2) ∙ list_all_at (is_false t.places) (record_at t.records c.args.at).lits index.0 0 c.requires.conflict.all_false index.1 in
    let facts : IsTrail (backtracked t c.top_level-level.result) = subst (λ (u : TrailState). IsTrail u) trail c.facts-2.ensures in
    let level = level-back t c.top_level-level.result lit c.facts.ensures facts false_there (c.top_level-level.ensures.most lit has.1) ∙ has.2 in
    subst (λ (u : TrailState). (l : ℕ) × Contains (record_at u.records c.args.at).lits l × (level_in u.places l ≡ u.level)) (sym trail) (lit, has.1, level)

pub returns-then-guided-level-clause-served : goal.returns-then-guided-level-clause-served
returns-then-guided-level-clause-served c =
    let t = c.args.self.now.trail in
    let trail = ap (λ (l : Learner). l.trail) c.backtrack.ensures.back in
    let jumped = subst (λ (u : TrailState). Backjumps u c.learn.new.self.trail) trail c.in_ok-learn.ensures.jumped in
    Backjumps-lighter t c.learn.new.self.trail c.top_level-level.result c.facts.ensures c.top_level-level.ensures.within jumped

pub returns-clause-served : goal.returns-clause-served
returns-clause-served c =
    let back = c.backtrack.ensures.back in
    let same = c.in_ok-id.ensures.same in
    let all = c.if-guided-level.false in
    let is = c.guided.ensures in
    let now = c.in_ok-id.ensures.kept.level in
    let level : c.backtrack.new.self.trail.level ≡ c.top_level-level.result = ap (λ (l : Learner). l.trail.level) back in
    let guided : c.analyze_final.new.self.assumptions.guided ≡ c.backtrack.new.self.assumptions.guided = ap (λ (l : Learner). l.assumptions.guided) same in
    let assumptions : c.analyze_final.new.self.assumptions.lits ≡ c.args.self.now.assumptions.lits = c.in_ok-id.ensures.steps.assumptions ∙ c.backtrack.ensures.steps.assumptions in
    subst (λ (assumptions : List ℕ). IsRefutation (solver_state c.analyze_final.new.self) assumptions c.in_ok-id.id) assumptions
    (IsRefutation-guided c.analyze_final.new.self None c.in_ok-id.id c.in_ok-id.ensures.steps.sound c.facts-3.ensures (omega arith) (λ lit stands. absurd (none-some lit stands)) c.in_ok-id.ensures.closed)
