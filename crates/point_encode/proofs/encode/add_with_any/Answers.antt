use Rattle.std.proofs.Common.{◌∷◌, ◌++◌, [], ap, ◌∙◌}
use Rattle.point_encode.specs.Model.Clauses.{is_so}
use Rattle.point_encode.proofs.Encoding.{one_pushed}
use Rattle.point_encode.proofs.encode.add_with_any.Goals as goal

pub loop-concept-preserved : goal.loop-concept-preserved
loop-concept-preserved c =
    let done = c.loop-concept.all.items in
    one_pushed is_so c.args.concepts.now _ done c.push.new.self.items c.loop-concept.concept-index 0 c.loop-concept-test.true
    (c.in_ok-push.ensures.items ∙ ap (λ lit. done ++ lit ∷ []) c.is_so.ensures) c.loop-concept.invariant
