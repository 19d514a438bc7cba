use Rattle.std.proofs.Common.{◌+◌, ◌*◌, ap, refl, sym, ◌∙◌, subst}
use Rattle.std.specs.Prelude.{IfSome}
use Rattle.std.proofs.lemmas.Bool.{false≢true}
use Rattle.rcc5_core.specs.Region.{word_at}
use Rattle.point_encode.specs.Model.Forced.{region_with, need_at}
use Rattle.world_model.specs.Alive.{HasPoint, problem_at}
use Rattle.point_pool.specs.Pools.{IsPoolBut}
use Rattle.point_pool.proofs.Pooling.{put_back}
use Rattle.point_query.specs.Closing.{IsClosedNow}
use Rattle.point_query.proofs.Baring.{bare_is_dead}
use Rattle.point_query.proofs.Deciding.{pool_but}
use Rattle.point_query.proofs.Querying.{keeps_still}
use Rattle.point_query.proofs.leading.is_bare.Goals as goal

pub serve-requires-clause-pool : goal.serve-requires-clause-pool
serve-requires-clause-pool c = pool_but c.args.pool.now _ _ c.requires.pool

pub returns-in_default : goal.returns-in_default
returns-in_default c = record { solver = keeps_still _ _ c.requires.solver; pool = c.requires.pool; cursor = refl; dead = λ bare. absurd (false≢true bare) }

pub returns-then-is_served-clause-solver : goal.returns-then-is_served-clause-solver
returns-then-is_served-clause-solver c = keeps_still _ _ c.requires.solver

pub returns-in-Some-clause-pool : goal.returns-in-Some-clause-pool
returns-in-Some-clause-pool c =
    let n = 3 * c.len-pair.result + c.args.part in
    let w = c.serve.new.pool in
    let stuck = subst (λ o. IfSome o (λ id. IsPoolBut w n (n + 1) × IsClosedNow w c.serve.new.solver n id)) c.in-Some.is c.in_ok-closed.ensures.closed in
    put_back w n c.push.new.self stuck.0 c.in_ok-push.ensures.there c.in_ok-push.ensures.stay

pub returns-in-Some-clause-dead : goal.returns-in-Some-clause-dead
returns-in-Some-clause-dead c = λ _.
    let p = c.args.pool.now.cursor.problem in
    let m = c.args.pool.now.cursor.path in
    let n = 3 * c.len-pair.result + c.args.part in
    let w = c.serve.new.pool in
    let stuck = subst (λ o. IfSome o (λ id. IsPoolBut w n (n + 1) × IsClosedNow w c.serve.new.solver n id)) c.in-Some.is c.in_ok-closed.ensures.closed in
    let none = subst (λ s. HasPoint (problem_at s.problem s.path) (need_at s.problem n) → ⊥) c.in_ok-closed.ensures.cursor stuck.1.no_point in
    let occupied = ap (λ r. word_at r (region_with c.args.part)) (sym c.row.ensures) ∙ sym c.word_of.ensures ∙ c.in-Occupied.is in
    bare_is_dead c.positions_narrow.ensures p m c.args.rel c.args.part n c.facts.ensures c.requires.within c.requires.allowed c.requires.part (ap (λ k. 3 * k + c.args.part) c.len-pair.ensures) occupied none
