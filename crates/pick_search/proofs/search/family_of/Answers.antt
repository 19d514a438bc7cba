use Rattle.std.proofs.Common.{sym, ap, ◌∙◌, subst}
use Rattle.std.specs.Prelude.{IfSome, IfNone}
use Rattle.world_model.specs.Alive.{IsAlive, family_of, problem_at}
use Rattle.point_query.specs.Answers.{IsServedByFew}
use Rattle.split_search.proofs.Points.{few_here}
use Rattle.pick_search.proofs.Deciding.{at_root, family_met}
use Rattle.pick_search.proofs.search.family_of.Goals as goal

pub from_points-requires-clause-few : goal.from_points-requires-clause-few
from_points-requires-clause-few c =
    let p = c.args.problem.now in
    let served = subst (λ o. IfSome o (IsServedByFew (problem_at p c.new.result))) c.in-Some.is c.in_ok-serving.ensures.some in
    rw c.list.ensures (few_here p c.new.result c.in-Some.points c.facts.ensures.built.concepts c.new.ensures served)

pub returns-in-None-clause-none : goal.returns-in-None-clause-none
returns-in-None-clause-none c =
    let p = c.args.problem.now in
    let dead = subst (λ o. IfNone o (IsAlive (problem_at p c.new.result) → ⊥)) c.in-None.is c.in_ok-serving.ensures.none in
    λ alive. dead (subst IsAlive (sym (at_root p c.new.result c.new.ensures)) alive)

pub returns-clause-some : goal.returns-clause-some
returns-clause-some c =
    let p = c.args.problem.now in
    let served = subst (λ o. IfSome o (IsServedByFew (problem_at p c.new.result))) c.in-Some.is c.in_ok-serving.ensures.some in
    family_met c.whole_sets_are_decided.ensures p c.new.result c.in-Some.points c.in_ok-family-in-Some.family c.facts.ensures.built c.requires.whole c.new.ensures served
    (c.in_ok-family-in-Some.ensures.of_problem p (sym c.concept_count.ensures) ∙ ap (family_of p) c.list.ensures)
