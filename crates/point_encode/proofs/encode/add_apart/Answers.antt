use Rattle.std.proofs.Common.{◌++◌, map, ap, ◌∙◌}
use Rattle.world_model.specs.Problem.{children_of}
use Rattle.point_encode.specs.Model.Clauses.{each_two, apart_clause}
use Rattle.point_encode.proofs.Encoding.{one_more}
use Rattle.point_encode.proofs.encode.add_apart.Goals as goal

pub loop-concept-preserved : goal.loop-concept-preserved
loop-concept-preserved c =
    let p = c.args.problem.now in
    let done = c.loop-concept.clauses.items in
    one_more (λ c. map apart_clause (each_two (children_of p c))) c.args.clauses.now.items done _ c.loop-concept.concept
    (c.in_ok-add_apart_all.ensures ∙ ap (λ l. done ++ map apart_clause (each_two l)) c.children_of.ensures.value)
    c.loop-concept.invariant
