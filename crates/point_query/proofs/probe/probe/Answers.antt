use Rattle.std.proofs.Common.{◌≡◌, ℕ, [], ap, ◌∙◌, subst}
use Rattle.std.specs.Prelude.{Option, IfSome, IfNone}
use Rattle.world_model.specs.Alive.{problem_at}
use Rattle.point_encode.specs.Needs.{need_seen, IsInRange}
use Rattle.point_pool.specs.Cursors.{IsEmptyPair}
use Rattle.point_encode.specs.Model.Forced.{need_at}
use Rattle.point_query.specs.Closing.{IsFirstStuck}
use Rattle.point_query.proofs.Querying.{keeps_still}
use Rattle.point_pool.proofs.Settling.{cursor_from, alive_at}
use Rattle.point_query.proofs.Answering.{closed_at}
use Rattle.point_query.proofs.probe.probe.Goals as goal

pub returns-in_err-pair-clause-solver : goal.returns-in_err-pair-clause-solver
returns-in_err-pair-clause-solver c = keeps_still _ _ c.requires.solver

pub returns-in-Some-clause-solver : goal.returns-in-Some-clause-solver
returns-in-Some-clause-solver c = keeps_still _ _ c.requires.solver

pub returns-in-Some-2-clause-answer : goal.returns-in-Some-2-clause-answer
returns-in-Some-2-clause-answer c =
    let p = c.args.pool.now.cursor.problem in
    let m = c.args.prefix.now in
    let w = c.settle.new.pool in
    let path = subst (λ (o : Option ℕ). IfNone o (c.go_to.new.self.cursor.path ≡ m)) c.in_default.is c.in_ok-pair.ensures.path in
    let same = c.in_ok-number.ensures.cursor ∙ cursor_from c.go_to.new.self.cursor p m c.in_ok-pair.ensures.problem path in
    let allow = subst (λ o. IsEmptyPair (problem_at p m) o) c.in_default.is c.in_ok-pair.ensures.empty in
    let stuck = subst (λ o. IfSome o (λ (x : ℕ × ℕ). IsFirstStuck w c.settle.new.solver x.0 x.1)) c.in-Some-2.is c.in_ok-number.ensures.closed in
    let seen = subst (λ q. need_seen q c.need_at.result ≡ need_at q c.in-Some-2.number) (c.problem.ensures ∙ ap (λ s. s.problem) same) c.need_at.ensures.value in
    let range = subst (λ q. IsInRange q c.need_at.result) (c.problem.ensures ∙ ap (λ s. s.problem) same) c.need_at.ensures.range in
    (range, closed_at w c.settle.new.solver p m c.in-Some-2.number c.in-Some-2.id (need_seen p c.need_at.result) same stuck allow seen)

pub returns-clause-answer : goal.returns-clause-answer
returns-clause-answer c =
    let p = c.args.pool.now.cursor.problem in
    let m = c.args.prefix.now in
    let w = c.settle.new.pool in
    let path = subst (λ (o : Option ℕ). IfNone o (c.go_to.new.self.cursor.path ≡ m)) c.in_default.is c.in_ok-pair.ensures.path in
    let same = c.in_ok-number.ensures.cursor ∙ cursor_from c.go_to.new.self.cursor p m c.in_ok-pair.ensures.problem path in
    let allow = subst (λ o. IsEmptyPair (problem_at p m) o) c.in_default.is c.in_ok-pair.ensures.empty in
    let none = subst (λ (o : Option (ℕ × ℕ)). IfNone o (w.waiting ≡ [])) c.in_default-2.is c.in_ok-number.ensures.settled in
    alive_at w p m same c.in_ok-number.ensures.pool none allow
