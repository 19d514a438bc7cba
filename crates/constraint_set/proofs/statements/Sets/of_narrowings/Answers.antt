use Rattle.std.proofs.Common.{◌≡◌, ◌+◌, ◌∷◌, ◌++◌, [], ◌∙◌, take, ap, sym, subst}
use Rattle.std.proofs.lemmas.List.{take_more}
use Rattle.constraint_set.specs.Sets.{AreSets}
use Rattle.constraint_set.proofs.statements.Sets.of_narrowings.Goals as goal

pub loop-narrowing-preserved : goal.loop-narrowing-preserved
loop-narrowing-preserved c =
    let shape = c.args.shape.now in
    let list = c.args.narrowings.now in
    let i = c.loop-narrowing.narrowing-index in
    let here = c.narrowing-item.result in
    let more : take (i + 1) list ≡ take i list ++ here ∷ [] = take_more list i here c.loop-narrowing-test.true ∙ ap (λ n. take i list ++ n ∷ []) (sym c.narrowing-item.is) in
    subst (λ statements. AreSets shape statements c.say.new.self) (sym more)
    (subst (λ n. AreSets shape (take i list ++ n ∷ []) c.say.new.self) c.narrowing.view_is (c.in_ok-say.ensures.says.after (take i list) c.loop-narrowing.invariant))
