use Rattle.std.proofs.Common.{◌≡◌, ◌<◌, ◌∙◌, ℕ, refl, sym, ap, subst}
use Rattle.std.specs.Prelude.{IsTrue, IfSome, IfNone}
use Rattle.world_model.specs.Alive.{problem_at, HasPoint}
use Rattle.point_query.specs.Queries.{IsSolverOf}
use Rattle.point_encode.specs.Numbers.{is_needed}
use Rattle.point_encode.specs.Model.Forced.{need_at, need_count}
use Rattle.point_pool.specs.Pools.{IsPool}
use Rattle.point_query.specs.Closing.{IsStuck}
use Rattle.point_query.proofs.Querying.{keeps_still, keeps_chain}
use Rattle.point_pool.proofs.Pooling.{popped, put_back, earlier_have}
use Rattle.point_query.proofs.settle.settle.Goals as goal

pub loop-number-init : goal.loop-number-init
loop-number-init c = record { pool = c.requires.pool; cursor = refl; solver = keeps_still _ _ c.requires.solver }

pub settle_one-requires-clause-pool : goal.settle_one-requires-clause-pool
settle_one-requires-clause-pool c = popped c.loop-number.pool c.in-Some.number c.pop.new.self c.loop-number.invariant.pool c.in-Some.ensures.stay

pub settle_one-requires-clause-solver : goal.settle_one-requires-clause-solver
settle_one-requires-clause-solver c = subst (λ s. IsSolverOf s.problem c.loop-number.solver) (sym c.loop-number.invariant.cursor) c.loop-number.invariant.solver.solver

pub returns-in_err-id-clause-solver : goal.returns-in_err-id-clause-solver
returns-in_err-id-clause-solver c =
    keeps_chain c.law_literals_are_sets.ensures c.args.pool.now.cursor.problem c.loop-number.pool.cursor.problem c.args.solver.now c.loop-number.solver c.settle_one.new.solver
    (ap (λ s. s.problem) c.loop-number.invariant.cursor) c.loop-number.invariant.solver c.settle_one.ensures.solver

pub returns-in_err-push-clause-solver : goal.returns-in_err-push-clause-solver
returns-in_err-push-clause-solver c =
    keeps_chain c.law_literals_are_sets.ensures c.args.pool.now.cursor.problem c.loop-number.pool.cursor.problem c.args.solver.now c.loop-number.solver c.settle_one.new.solver
    (ap (λ s. s.problem) c.loop-number.invariant.cursor) c.loop-number.invariant.solver c.settle_one.ensures.solver

pub returns-in-Some-2-clause-solver : goal.returns-in-Some-2-clause-solver
returns-in-Some-2-clause-solver c =
    keeps_chain c.law_literals_are_sets.ensures c.args.pool.now.cursor.problem c.loop-number.pool.cursor.problem c.args.solver.now c.loop-number.solver c.settle_one.new.solver
    (ap (λ s. s.problem) c.loop-number.invariant.cursor) c.loop-number.invariant.solver c.settle_one.ensures.solver

pub returns-in-Some-2-clause-pool : goal.returns-in-Some-2-clause-pool
returns-in-Some-2-clause-pool c =
    let stuck = subst (λ o. IfSome o (IsStuck c.settle_one.new.pool c.settle_one.new.solver c.in-Some.number)) c.in-Some-2.is c.in_ok-id.ensures.closed in
    put_back c.settle_one.new.pool c.in-Some.number c.push.new.self stuck.others c.in_ok-push.ensures.there c.in_ok-push.ensures.stay

pub returns-in-Some-2-clause-closed : goal.returns-in-Some-2-clause-closed
returns-in-Some-2-clause-closed c =
    let w = c.loop-number.pool in
    let number = c.in-Some.number in
    let stuck = subst (λ o. IfSome o (IsStuck c.settle_one.new.pool c.settle_one.new.solver number)) c.in-Some-2.is c.in_ok-id.ensures.closed in
    let stays : c.settle_one.new.pool.cursor ≡ w.cursor = c.in_ok-id.ensures.cursor in
    let within : number < need_count w.cursor.problem = subst (λ s. number < need_count s.problem) stays stuck.within in
    let earlier = earlier_have w number c.loop-number.invariant.pool within c.in-Some.ensures.least in
    record {
      within = stuck.within;
      needed = stuck.needed;
      closed = stuck.closed;
      earlier = subst (λ s. (other : ℕ) → other < number → IsTrue (is_needed (problem_at s.problem s.path) other) → HasPoint (problem_at s.problem s.path) (need_at s.problem other)) (sym stays) earlier;
    }

pub loop-number-preserved : goal.loop-number-preserved
loop-number-preserved c =
    let settled = subst (λ o. IfNone o (IsPool c.settle_one.new.pool)) c.in_default-2.is c.in_ok-id.ensures.settled in
    record {
      pool = settled;
      cursor = c.in_ok-id.ensures.cursor ∙ c.loop-number.invariant.cursor;
      solver = keeps_chain c.law_literals_are_sets.ensures c.args.pool.now.cursor.problem c.loop-number.pool.cursor.problem c.args.solver.now c.loop-number.solver c.settle_one.new.solver
          (ap (λ s. s.problem) c.loop-number.invariant.cursor) c.loop-number.invariant.solver c.settle_one.ensures.solver;
    }

pub returns-clause-settled : goal.returns-clause-settled
returns-clause-settled c = c.in_default.ensures.left
