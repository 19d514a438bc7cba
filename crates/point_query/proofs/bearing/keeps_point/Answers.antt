use Rattle.std.proofs.Common.{◌≡◌, ◌∙◌, ◌<◌, ◌∷◌, ◌++◌, [], true, length, sym, ap, subst}
use Rattle.std.specs.Prelude.{IfSome, IsTrue}
use Rattle.rcc5_core.specs.RelationSet.{has}
use Rattle.point_encode.specs.Model.Forced.{need_at, need_count}
use Rattle.point_encode.specs.Numbers.{is_needed}
use Rattle.world_model.specs.Alive.{HasPoint, allowed, problem_at}
use Rattle.world_model.specs.Node.{pair_at}
use Rattle.point_pool.specs.declared.pool.Pool.{Pool}
use Rattle.point_pool.specs.Pools.{IsPool}
use Rattle.point_query.proofs.Deciding.{lost_is_dead}
use Rattle.point_query.proofs.Querying.{keeps_still}
use Rattle.point_query.proofs.bearing.keeps_point.Goals as goal

pub returns-then-number-count_needs-clause-solver : goal.returns-then-number-count_needs-clause-solver
returns-then-number-count_needs-clause-solver c = keeps_still _ _ c.requires.solver

pub returns-then-leaves_one-clause-solver : goal.returns-then-leaves_one-clause-solver
returns-then-leaves_one-clause-solver c = keeps_still _ _ c.requires.solver

pub returns-in_err-needed-clause-solver : goal.returns-in_err-needed-clause-solver
returns-in_err-needed-clause-solver c = keeps_still _ _ c.requires.solver

pub returns-then-not-needed-clause-solver : goal.returns-then-not-needed-clause-solver
returns-then-not-needed-clause-solver c = keeps_still _ _ c.requires.solver

pub returns-then-not-needed-clause-pool : goal.returns-then-not-needed-clause-pool
returns-then-not-needed-clause-pool c = subst IsPool (sym c.in_ok-needed.ensures.same) c.requires.pool

pub closed_after-requires-clause-pool : goal.closed_after-requires-clause-pool
closed_after-requires-clause-pool c = subst IsPool (sym c.in_ok-needed.ensures.same) c.requires.pool

pub closed_after-requires-clause-allowed : goal.closed_after-requires-clause-allowed
closed_after-requires-clause-allowed c =
    subst (λ (w : Pool). IsTrue (has (allowed w.cursor.problem (pair_at w.cursor.problem (length w.cursor.path))) c.args.rel)) (sym c.in_ok-needed.ensures.same) c.requires.allowed

pub returns-in-Some-clause-dead : goal.returns-in-Some-clause-dead
returns-in-Some-clause-dead c = λ _ alive.
    let s = c.args.pool.now.cursor in
    let rel = c.args.rel in
    let number = c.args.number in
    let w = c.is_needed_after.new.pool in
    let some = subst (λ o. IfSome o (λ id. HasPoint (problem_at w.cursor.problem (w.cursor.path ++ rel ∷ [])) (need_at w.cursor.problem number) → ⊥)) c.in-Some.is c.in_ok-closed.ensures.some in
    let none = subst (λ (w : Pool). HasPoint (problem_at w.cursor.problem (w.cursor.path ++ rel ∷ [])) (need_at w.cursor.problem number) → ⊥) c.in_ok-needed.ensures.same some in
    let below = subst (λ n. number < n) (c.count_needs.ensures ∙ ap need_count c.problem.ensures) c.if-number-count_needs.false in
    let needed : is_needed (problem_at s.problem (s.path ++ rel ∷ [])) number ≡ true = sym c.in_ok-needed.ensures.needed ∙ c.if-not-needed.false in
    lost_is_dead s.problem (s.path ++ rel ∷ []) number below needed none alive
