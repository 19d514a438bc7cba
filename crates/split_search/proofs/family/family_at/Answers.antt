use Rattle.std.proofs.Common.{sym, ap, ◌∙◌, subst}
use Rattle.std.specs.Prelude.{IfSome, IfNone}
use Rattle.world_model.specs.Alive.{problem_at, family_of, IsAlive}
use Rattle.point_query.specs.Answers.{IsServedByFew}
use Rattle.split_search.specs.Walking.{split_tree}
use Rattle.split_search.proofs.Lines.{dead_here}
use Rattle.split_search.proofs.Points.{few_here, family_meets}
use Rattle.split_search.proofs.family.family_at.Goals as goal

pub from_points-requires-clause-few : goal.from_points-requires-clause-few
from_points-requires-clause-few c =
    let node = c.node-node.result.now in
    let served = subst (λ o. IfSome o (IsServedByFew (problem_at node c.new.result))) c.in-Some.is c.in_ok-serving.ensures.some in
    rw c.list.ensures (few_here node c.new.result c.in-Some.points c.facts.ensures.built.concepts c.new.ensures served)

pub returns-in-None-clause-none : goal.returns-in-None-clause-none
returns-in-None-clause-none c =
    let node = c.node-node.result.now in
    dead_here (split_tree c.args.walk.now.subject) c.args.walk.now.path node c.new.result (c.node-node.ensures, c.new.ensures)
    (subst (λ o. IfNone o (IsAlive (problem_at node c.new.result) → ⊥)) c.in-None.is c.in_ok-serving.ensures.none)

pub returns-clause-some : goal.returns-clause-some
returns-clause-some c =
    let node = c.node-node.result.now in
    let served = subst (λ o. IfSome o (IsServedByFew (problem_at node c.new.result))) c.in-Some.is c.in_ok-serving.ensures.some in
    family_meets c.whole_sets_are_decided.ensures c.args.walk.now.subject c.args.walk.now.path node c.new.result c.in-Some.points c.in_ok-family-in-Some.family c.requires.full c.node-node.ensures c.facts.ensures.built
    c.new.ensures served (c.in_ok-family-in-Some.ensures.of_problem node (sym c.concept_count.ensures) ∙ ap (family_of node) c.list.ensures)
