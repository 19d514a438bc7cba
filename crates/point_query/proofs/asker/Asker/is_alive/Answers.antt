use Rattle.std.proofs.Common.{refl, subst}
use Rattle.std.proofs.lemmas.Bool.{false≢true}
use Rattle.world_model.specs.Alive.{problem_at}
use Rattle.point_encode.specs.Needs.{need_seen}
use Rattle.point_query.specs.Answers.{IsProbeAnswer}
use Rattle.point_query.proofs.Deciding.{empty_is_dead, closed_is_dead}
use Rattle.point_query.proofs.asker.Asker.is_alive.Goals as goal

pub returns-in-Alive-clause-alive : goal.returns-in-Alive-clause-alive
returns-in-Alive-clause-alive c =
    let answer = subst (λ a. IsProbeAnswer c.probe.new.self c.args.problem.now c.args.prefix.now a) c.in-Alive.is c.in_ok-probe.ensures.answer in
    (λ yes. answer, λ alive. refl)

pub returns-in-EmptyPair-clause-alive : goal.returns-in-EmptyPair-clause-alive
returns-in-EmptyPair-clause-alive c =
    let p = c.args.problem.now in
    let m = c.args.prefix.now in
    let answer = subst (λ a. IsProbeAnswer c.probe.new.self p m a) c.in-EmptyPair.is c.in_ok-probe.ensures.answer in
    (λ yes. absurd (false≢true yes), λ alive. absurd (empty_is_dead (problem_at p m) c.in-EmptyPair.field-0 answer alive))

pub returns-in-Closed-clause-alive : goal.returns-in-Closed-clause-alive
returns-in-Closed-clause-alive c =
    let p = c.args.problem.now in
    let m = c.args.prefix.now in
    let answer = subst (λ a. IsProbeAnswer c.probe.new.self p m a) c.in-Closed.is c.in_ok-probe.ensures.answer in
    (λ yes. absurd (false≢true yes), λ alive. absurd (closed_is_dead c.probe.new.self p m (need_seen p c.in-Closed.field-0) c.in-Closed.field-1 answer.1 alive))
