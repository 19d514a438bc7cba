use Rattle.std.proofs.Common.{◌≡◌, ◌∙◌, ◌∷◌, ◌++◌, [], true, length, sym, ap, subst}
use Rattle.std.specs.Prelude.{IsTrue}
use Rattle.rcc5_core.specs.RelationSet.{has}
use Rattle.point_encode.specs.Model.Forced.{need_at}
use Rattle.world_model.specs.Alive.{allowed, is_point, problem_at}
use Rattle.world_model.specs.Node.{pair_at}
use Rattle.point_pool.specs.Cursors.{CursorState}
use Rattle.point_pool.specs.declared.pool.Pool.{Pool}
use Rattle.point_pool.specs.Pools.{IsPool}
use Rattle.point_query.specs.Answers.{IsFound}
use Rattle.point_query.specs.Queries.{asker_with}
use Rattle.point_query.proofs.Deciding.{pool_but}
use Rattle.point_query.proofs.Keeping.{point_before, pool_whole}
use Rattle.point_query.proofs.Querying.{keeps_still}
use Rattle.point_query.proofs.bearing.closed_after.Goals as goal

pub returns-in_err-known-clause-solver : goal.returns-in_err-known-clause-solver
returns-in_err-known-clause-solver c = keeps_still _ _ c.requires.solver

pub returns-in-Some-clause-solver : goal.returns-in-Some-clause-solver
returns-in-Some-clause-solver c = keeps_still _ _ c.requires.solver

pub draft_after-requires-clause-allowed : goal.draft_after-requires-clause-allowed
draft_after-requires-clause-allowed c =
    subst (λ (w : Pool). IsTrue (has (allowed w.cursor.problem (pair_at w.cursor.problem (length w.cursor.path))) c.args.rel)) (sym c.in_ok-known.ensures.same) c.requires.allowed

pub returns-in_err-draft-clause-solver : goal.returns-in_err-draft-clause-solver
returns-in_err-draft-clause-solver c = keeps_still _ _ c.requires.solver

pub add-requires-clause-point : goal.add-requires-clause-point
add-requires-clause-point c =
    let s = c.args.pool.now.cursor in
    let rel = c.args.rel in
    let bits = c.in-Point.bits in
    let w = c.draft_after.new.self in
    let stays : w.cursor ≡ s = c.in_ok-draft.ensures.cursor ∙ ap (λ (w : Pool). w.cursor) c.in_ok-known.ensures.same in
    let found = subst (λ f. IsFound (asker_with w.cursor.problem c.found_after.new.solver) w.cursor.problem (w.cursor.path ++ rel ∷ []) (need_at w.cursor.problem c.args.number) f) c.in-Point.is c.in_ok-bits.ensures.found in
    let point = subst (λ (t : CursorState). is_point (problem_at t.problem (t.path ++ rel ∷ [])) bits ≡ true) stays found.0 in
    subst (λ (t : CursorState). is_point (problem_at t.problem t.path) bits ≡ true) (sym (ap (λ (w : Pool). w.cursor) c.in_ok-bits.ensures.same ∙ stays))
    (point_before c.positions_narrow.ensures s.problem s.path rel bits c.facts.ensures c.requires.within c.requires.allowed point)

pub returns-in_ok-add-in-Point-clause-pool : goal.returns-in_ok-add-in-Point-clause-pool
returns-in_ok-add-in-Point-clause-pool c =
    let is = subst IsPool (sym c.in_ok-bits.ensures.same) c.in_ok-draft.ensures.pool in
    pool_whole c.add.new.self (c.in_ok-add-in-Point.ensures.pool 0 0 (pool_but c.found_after.new.pool 0 0 is))
