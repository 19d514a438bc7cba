use Rattle.std.proofs.Common.{◌≡◌, ◌<◌, ◌+◌, ℕ, ◌∙◌, sym, ap, subst}
use Rattle.std.specs.Prelude.{IsTrue, IfSome, IfNone, Option}
use Rattle.world_model.specs.Alive.{problem_at, is_point, is_in_need}
use Rattle.point_encode.specs.Needs.{need_seen, need_number}
use Rattle.point_encode.specs.Model.Forced.{need_at, need_count}
use Rattle.point_pool.specs.Pools.{IsPool, IsPoolBut, HasWitness}
use Rattle.point_pool.proofs.Pooling.{put_back}
use Rattle.point_pool.proofs.Settling.{numbered_need}
use Rattle.point_query.specs.Answers.{IsClosed}
use Rattle.point_query.specs.Closing.{IsClosedNow}
use Rattle.point_query.specs.Queries.{asker_with}
use Rattle.point_query.proofs.probe.ask_here.Goals as goal

pub returns-in-Some-clause-pool : goal.returns-in-Some-clause-pool
returns-in-Some-clause-pool c =
    let w = c.serve.new.pool in
    let n = c.need_number-number.result in
    let closed = subst (λ o. IfSome o (λ (id : ℕ). IsPoolBut w n (n + 1) × IsClosedNow w c.serve.new.solver n id)) c.in-Some.is c.in_ok-id.ensures.closed in
    put_back w n c.push.new.self closed.0 c.in_ok-push.ensures.there c.in_ok-push.ensures.stay

pub returns-in-Some-clause-found : goal.returns-in-Some-clause-found
returns-in-Some-clause-found c =
    let p = c.args.pool.now.cursor.problem in
    let m = c.args.pool.now.cursor.path in
    let w = c.serve.new.pool in
    let s = c.serve.new.solver in
    let n = c.need_number-number.result in
    let same : n ≡ need_number p c.args.need = c.need_number-number.ensures.number ∙ ap (λ q. need_number q c.args.need) c.problem.ensures in
    let closed = subst (λ o. IfSome o (λ (id : ℕ). IsPoolBut w n (n + 1) × IsClosedNow w s n id)) c.in-Some.is c.in_ok-id.ensures.closed in
    let here = subst (λ st. IsClosed (asker_with st.problem s) st.problem st.path (need_at st.problem n) c.in-Some.id) c.in_ok-id.ensures.cursor closed.1 in
    subst (λ x. IsClosed (asker_with p s) p m x c.in-Some.id) (ap (need_at p) same ∙ (numbered_need p c.args.need c.requires.range).1) here

pub witness-requires-clause-within : goal.witness-requires-clause-within
witness-requires-clause-within c =
    let p = c.args.pool.now.cursor.problem in
    let same : c.need_number-number.result ≡ need_number p c.args.need = c.need_number-number.ensures.number ∙ ap (λ q. need_number q c.args.need) c.problem.ensures in
    subst (λ s. c.need_number-number.result < need_count s.problem) (sym c.in_ok-id.ensures.cursor) (subst (λ n. n < need_count p) (sym same) (numbered_need p c.args.need c.requires.range).0)

pub witness-requires-clause-served : goal.witness-requires-clause-served
witness-requires-clause-served c =
    let w = c.serve.new.pool in
    let n = c.need_number-number.result in
    (subst (λ (o : Option ℕ). IfNone o (IsPool w × HasWitness w n)) c.in_default.is c.in_ok-id.ensures.served).1

pub witness-requires-clause-kept : goal.witness-requires-clause-kept
witness-requires-clause-kept c =
    let w = c.serve.new.pool in
    let n = c.need_number-number.result in
    (subst (λ (o : Option ℕ). IfNone o (IsPool w × HasWitness w n)) c.in_default.is c.in_ok-id.ensures.served).0.kept

pub returns-clause-found : goal.returns-clause-found
returns-clause-found c =
    let p = c.args.pool.now.cursor.problem in
    let m = c.args.pool.now.cursor.path in
    let n = c.need_number-number.result in
    let same : n ≡ need_number p c.args.need = c.need_number-number.ensures.number ∙ ap (λ q. need_number q c.args.need) c.problem.ensures in
    let seen : need_at p n ≡ need_seen p c.args.need = ap (need_at p) same ∙ (numbered_need p c.args.need c.requires.range).1 in
    let first = subst (λ s. IsTrue (is_point (problem_at s.problem s.path) c.in_ok-point.point)) c.in_ok-id.ensures.cursor c.in_ok-point.ensures.point in
    let second = subst (λ s. IsTrue (is_in_need (need_at s.problem n) c.in_ok-point.point)) c.in_ok-id.ensures.cursor c.in_ok-point.ensures.in_need in
    (first, subst (λ x. IsTrue (is_in_need x c.in_ok-point.point)) seen second)
