use Rattle.std.proofs.Common.{sym, subst}
use Rattle.std.specs.Prelude.{IfSome}
use Rattle.world_model.specs.Family.{IsPossibleWorld}
use Rattle.world_walk.specs.Walks.{StandsBefore, StandsBehind}
use Rattle.world_walk.proofs.WalkLemmas.{begins_behind, front_is_behind}
use Rattle.world_walk.proofs.walk.Walk.behind.Goals as goal

pub returns-in_ok-walk-in-None-clause-behind : goal.returns-in_ok-walk-in-None-clause-behind
returns-in_ok-walk-in-None-clause-behind c =
    let p = c.args.problem.now in
    let walk = c.in_ok-walk-in-None.walk in
    subst (λ o. StandsBehind p o walk) (sym c.in-None.is)
    (front_is_behind p walk (subst (λ m. StandsBefore p m walk) c.new-front.ensures c.in_ok-walk-in-None.ensures.before))

pub returns-in_ok-next-in-Some-clause-behind : goal.returns-in_ok-next-in-Some-clause-behind
returns-in_ok-next-in-Some-clause-behind c =
    let p = c.args.problem.now in
    let world : IsPossibleWorld p c.in-Some.last = subst (λ o. IfSome o (IsPossibleWorld p)) c.in-Some.is c.requires in
    subst (λ o. StandsBehind p o c.next.new.self) (sym c.in-Some.is)
    (begins_behind p c.in-Some.last c.in_ok-walk-in-Some.walk c.next.new.self c.in_ok-next-in-Some.field-0 world c.in_ok-walk-in-Some.ensures.before c.in_ok-next-in-Some.ensures.next)
