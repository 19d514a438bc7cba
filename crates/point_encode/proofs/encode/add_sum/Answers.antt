use Rattle.std.proofs.Common.{◌∷◌, ◌++◌, [], get_or, ap, ◌∙◌}
use Rattle.point_encode.specs.Model.Clauses.{is_so, is_not}
use Rattle.point_encode.proofs.Encoding.{one_pushed}
use Rattle.point_encode.proofs.encode.add_sum.Goals as goal

pub loop-part-preserved : goal.loop-part-preserved
loop-part-preserved c =
    let done = c.loop-part.clauses.items in
    let selector = is_not c.args.selector in
    let part = is_not (get_or c.args.parts.now c.loop-part.part-index 0) in
    one_pushed (λ part. selector ∷ is_not part ∷ is_so c.args.whole ∷ []) c.args.parts.now c.args.clauses.now.items done c.add.new.clauses.items c.loop-part.part-index 0 c.loop-part-test.true
    (c.in_ok-add.ensures
    ∙ ap (λ lit. done ++ (lit ∷ c.is_not-in-loop-part.result ∷ c.is_so.result ∷ []) ∷ []) c.is_not.ensures
    ∙ ap (λ lit. done ++ (selector ∷ lit ∷ c.is_so.result ∷ []) ∷ []) c.is_not-in-loop-part.ensures
    ∙ ap (λ lit. done ++ (selector ∷ part ∷ lit ∷ []) ∷ []) c.is_so.ensures)
    c.loop-part.invariant
