use Rattle.std.proofs.Common.{◌≡◌, sym, ap, ◌∙◌, subst, IsTrue}
use Rattle.std.specs.Prelude.{IfSome}
use Rattle.std.proofs.lemmas.Result.{IfOk-weaker}
use Rattle.world_model.specs.Problem.{concept_count, Problem}
use Rattle.world_model.specs.Family.{meets, table_of}
use Rattle.world_model.specs.Alive.{problem_at, family_of}
use Rattle.point_query.specs.Answers.{IsServedByFew}
use Rattle.world_model.proofs.FewPoints.{few_points}
use Rattle.world_search.proofs.steps.family_of.Goals as goal

pub from_points-requires-clause-few : goal.from_points-requires-clause-few
from_points-requires-clause-few c =
    let p = c.args.problem.now in
    let t = c.args.table.now in
    let served : IsServedByFew (problem_at p t) c.in-Some.points = subst (λ o. IfSome o (IsServedByFew (problem_at p t))) c.in-Some.is c.in_ok-serving.ensures.some in
    rw c.list.ensures (few_points (problem_at p t) c.in-Some.points c.facts.ensures.built.concepts served.few)

pub returns-clause-met : goal.returns-clause-met
returns-clause-met c =
    let p = c.args.problem.now in
    let t = c.args.table.now in
    let served : IsServedByFew (problem_at p t) c.in-Some.points = subst (λ o. IfSome o (IsServedByFew (problem_at p t))) c.in-Some.is c.in_ok-serving.ensures.some in
    let law = c.alive_tables_are_worlds.ensures in
    let world = law.served p c.facts.ensures.built.valid t (law.full p t c.requires.world) c.in-Some.points served.allow served.serve in
    IfOk-weaker c.from_points.result (λ f. (q : Problem) → concept_count q ≡ c.concept_count.result → f ≡ family_of q c.list.result.now) (λ f. IsTrue (meets p f))
    (λ f of. subst (λ g. IsTrue (meets p g)) (sym (of p (sym c.concept_count.ensures) ∙ ap (family_of p) c.list.ensures)) world.0)
    c.from_points.ensures.of_problem

pub returns-clause-shown : goal.returns-clause-shown
returns-clause-shown c =
    let p = c.args.problem.now in
    let t = c.args.table.now in
    let served : IsServedByFew (problem_at p t) c.in-Some.points = subst (λ o. IfSome o (IsServedByFew (problem_at p t))) c.in-Some.is c.in_ok-serving.ensures.some in
    let law = c.alive_tables_are_worlds.ensures in
    let world = law.served p c.facts.ensures.built.valid t (law.full p t c.requires.world) c.in-Some.points served.allow served.serve in
    IfOk-weaker c.from_points.result (λ f. (q : Problem) → concept_count q ≡ c.concept_count.result → f ≡ family_of q c.list.result.now) (λ f. table_of p f ≡ t)
    (λ f of. subst (λ g. table_of p g ≡ t) (sym (of p (sym c.concept_count.ensures) ∙ ap (family_of p) c.list.ensures)) world.1)
    c.from_points.ensures.of_problem
