use Rattle.std.proofs.Common.{take, ◌∙◌, ◌++◌, ℕ, List, subst, sym, ap}
use Rattle.std.specs.Prelude.{IsTrue}
use Rattle.world_model.specs.Alive.{is_point, is_in_need, problem_at}
use Rattle.learn_solver.specs.Answers.{IsAnswer}
use Rattle.point_encode.specs.Needs.{need_seen}
use Rattle.point_pool.proofs.Settling.{seen_named}
use Rattle.point_query.proofs.Querying.{keeps_still, keeps_on, asked_in_range, asked_consistent, model_is_point, refuted_is_closed, solver_stays}
use Rattle.point_query.proofs.question.query.Goals as goal

pub returns-in_err-more-clause-solver : goal.returns-in_err-more-clause-solver
returns-in_err-more-clause-solver c = keeps_still _ _ c.requires.solver

pub solve-requires-clause-range : goal.solve-requires-clause-range
solve-requires-clause-range c =
    let lits = c.args.selectors.now ++ c.deref.result.now in
    let same = ap (λ (more : List ℕ). c.args.selectors.now ++ more) (c.deref.ensures.value ∙ c.in_ok-more.ensures) in
    asked_in_range c.needs_are_literals.ensures c.args.problem.now c.args.prefix.now (need_seen c.args.problem.now c.args.need) c.args.selectors.now lits c.args.solver.now
    c.facts.ensures.built c.requires.solver (seen_named c.args.problem.now c.args.need c.requires.range) c.requires.selectors same

pub solve-requires-clause-consistent : goal.solve-requires-clause-consistent
solve-requires-clause-consistent c =
    let lits = c.args.selectors.now ++ c.deref.result.now in
    let same = ap (λ (more : List ℕ). c.args.selectors.now ++ more) (c.deref.ensures.value ∙ c.in_ok-more.ensures) in
    asked_consistent c.needs_are_literals.ensures c.args.problem.now c.args.prefix.now (need_seen c.args.problem.now c.args.need) c.args.selectors.now lits
    c.facts.ensures.built (seen_named c.args.problem.now c.args.need c.requires.range) c.requires.selectors same

pub returns-in-Bits-clause-found : goal.returns-in-Bits-clause-found
returns-in-Bits-clause-found c =
    let lits = c.args.selectors.now ++ c.deref.result.now in
    let same = ap (λ (more : List ℕ). c.args.selectors.now ++ more) (c.deref.ensures.value ∙ c.in_ok-more.ensures) in
    let p = c.args.problem.now in
    let m = c.args.prefix.now in
    let need = need_seen p c.args.need in
    let s = solver_stays c.law_derived_clauses_follow.ensures p c.args.solver.now c.solve.new.self c.requires.solver c.in_ok-bits.ensures.kept in
    let answer = subst (λ a. IsAnswer c.solve.new.self lits a) c.in-Bits.is c.in_ok-bits.ensures.answer in
    subst (λ bits. IsTrue (is_point (problem_at p m) bits) × IsTrue (is_in_need need bits)) (sym (c.in_ok-point-in-Bits.ensures ∙ ap (λ n. take n c.in-Bits.bits) c.concept_count.ensures))
    (model_is_point c.clauses_are_points.ensures c.needs_are_literals.ensures c.law_literals_are_sets.ensures p m need c.args.selectors.now lits c.solve.new.self c.in-Bits.bits
    c.facts.ensures.built s (seen_named c.args.problem.now c.args.need c.requires.range) c.requires.selectors same answer)

pub returns-clause-found : goal.returns-clause-found
returns-clause-found c =
    let lits = c.args.selectors.now ++ c.deref.result.now in
    let same = ap (λ (more : List ℕ). c.args.selectors.now ++ more) (c.deref.ensures.value ∙ c.in_ok-more.ensures) in
    let p = c.args.problem.now in
    let m = c.args.prefix.now in
    let need = need_seen p c.args.need in
    let s = solver_stays c.law_derived_clauses_follow.ensures p c.args.solver.now c.solve.new.self c.requires.solver c.in_ok-bits.ensures.kept in
    let answer = subst (λ a. IsAnswer c.solve.new.self lits a) c.in-Refuted.is c.in_ok-bits.ensures.answer in
    refuted_is_closed c.clauses_are_points.ensures c.needs_are_literals.ensures c.law_literals_are_sets.ensures p m need c.args.selectors.now lits c.solve.new.self c.in-Refuted.id
    c.facts.ensures.built s (seen_named c.args.problem.now c.args.need c.requires.range) c.requires.selectors same answer

pub returns-in_err-bits-clause-solver : goal.returns-in_err-bits-clause-solver
returns-in_err-bits-clause-solver c = keeps_on c.law_derived_clauses_follow.ensures c.args.problem.now c.args.solver.now c.solve.new.self c.requires.solver c.solve.ensures.kept

pub returns-in_err-point-in-Bits-clause-solver : goal.returns-in_err-point-in-Bits-clause-solver
returns-in_err-point-in-Bits-clause-solver c = keeps_on c.law_derived_clauses_follow.ensures c.args.problem.now c.args.solver.now c.solve.new.self c.requires.solver c.solve.ensures.kept

pub returns-in-Bits-clause-solver : goal.returns-in-Bits-clause-solver
returns-in-Bits-clause-solver c = keeps_on c.law_derived_clauses_follow.ensures c.args.problem.now c.args.solver.now c.solve.new.self c.requires.solver c.solve.ensures.kept

pub returns-clause-solver : goal.returns-clause-solver
returns-clause-solver c = keeps_on c.law_derived_clauses_follow.ensures c.args.problem.now c.args.solver.now c.solve.new.self c.requires.solver c.solve.ensures.kept
