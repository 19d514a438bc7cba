use Rattle.std.proofs.Common.{◌≡◌, [], ◌∷◌, ◌++◌, sym, ◌∙◌, subst, IsTrue}
use Rattle.std.specs.Prelude.{◌↔◌, IfSome}
use Rattle.rcc5_core.specs.RelationSet.{has}
use Rattle.world_model.specs.Alive.{problem_at, IsAlive}
use Rattle.world_search.specs.Guiding.{IsLadderOf}
use Rattle.world_search.proofs.guide.Guide.alive_after.Goals as goal

pub returns-in_ok-climb_to-in-Some-clause-each : goal.returns-in_ok-climb_to-in-Some-clause-each
returns-in_ok-climb_to-in-Some-clause-each c = λ rel.
    let p = c.args.problem.now in
    let m = c.args.prefix.now in
    let new = c.climb_to.new.ladder in
    let here : IsLadderOf p m c.in-Some.ladder = subst (λ o. IfSome o (IsLadderOf p m)) c.in-Some.is c.requires.guide in
    let same : new.problem ≡ p = c.in_ok-climb_to-in-Some.ensures.ladder.problem ∙ here.problem in
    let alive = c.in_ok-climb_to-in-Some.ensures.alive.1 (subst (λ q. IsAlive (problem_at q m)) (sym here.problem) c.requires.alive) in
    let path : new.path ≡ m = c.in_ok-climb_to-in-Some.ensures.there alive in
    subst (λ x. IsTrue (has c.leads_on.result rel) ↔ IsAlive (problem_at p (x ++ rel ∷ []))) path
    (subst (λ q. IsTrue (has c.leads_on.result rel) ↔ IsAlive (problem_at q (new.path ++ rel ∷ []))) same (c.leads_on.ensures rel))
