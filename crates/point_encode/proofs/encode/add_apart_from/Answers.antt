use Rattle.std.proofs.Common.{◌∷◌, ◌++◌, [], ap, ◌∙◌}
use Rattle.point_encode.specs.Model.Clauses.{is_not}
use Rattle.point_encode.proofs.Encoding.{one_apart}
use Rattle.point_encode.proofs.encode.add_apart_from.Goals as goal

pub loop-other-preserved : goal.loop-other-preserved
loop-other-preserved c =
    let done = c.loop-other.clauses.items in
    one_apart c.args.concept c.args.others.now c.args.clauses.now.items done c.add.new.clauses.items c.loop-other.other-index c.loop-other-test.true
    (c.in_ok-add.ensures
    ∙ ap (λ lit. done ++ (lit ∷ c.is_not-in-loop-other.result ∷ []) ∷ []) c.is_not.ensures
    ∙ ap (λ lit. done ++ (is_not c.args.concept ∷ lit ∷ []) ∷ []) c.is_not-in-loop-other.ensures)
    c.loop-other.invariant
