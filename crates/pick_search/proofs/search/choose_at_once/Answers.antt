use Rattle.std.proofs.Common.{subst}
use Rattle.std.specs.Prelude.{IfSome, IfNone}
use Rattle.world_model.specs.Alive.{IsAlive}
use Rattle.set_family.specs.Meeting.{IsMetBy}
use Rattle.pick_search.proofs.search.choose_at_once.Goals as goal

pub returns-in-Some-clause-choice : goal.returns-in-Some-clause-choice
returns-in-Some-clause-choice c = subst (λ o. IfSome o (IsMetBy c.args.problem.now)) c.in-Some.is c.in_ok-found.ensures.some

pub returns-in-None-clause-choice : goal.returns-in-None-clause-choice
returns-in-None-clause-choice c =
    let p = c.args.problem.now in
    let dead = subst (λ o. IfNone o (IsAlive p → ⊥)) c.in-None.is c.in_ok-found.ensures.none in
    λ met. dead (c.whole_sets_are_decided.ensures.met p met)
