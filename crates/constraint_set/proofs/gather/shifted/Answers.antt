use Rattle.std.proofs.Common.{◌+◌, ◌∷◌, ◌++◌, [], ◌∙◌, get_or, ap, sym}
use Rattle.std.proofs.lemmas.List.{map_more}
use Rattle.constraint_set.proofs.gather.shifted.Goals as goal

pub loop-child-preserved : goal.loop-child-preserved
loop-child-preserved c =
    let children = c.args.children.now in
    let index = c.loop-child.child-index in
    c.in_ok-push.ensures.items ∙ ap (λ xs. xs ++ (c.args.before + get_or children index 0) ∷ []) c.loop-child.invariant ∙
    sym (map_more (λ q. c.args.before + q) children index 0 c.loop-child-test.true)
