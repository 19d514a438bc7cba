use Rattle.std.proofs.Common.{◌≡◌, ◌-◌, ◌++◌, length, take, drop, ap, ◌∙◌, arith}
use Rattle.std.proofs.lemmas.List.{take-append-drop, take_all, length-drop}
use Rattle.report_run.proofs.showing.rewrite.Goals as goal

pub returns : goal.returns
returns c =
    let table = c.args.table.now in
    let kept = c.args.kept in
    let rest = take (length table - kept) (drop kept table) in
    let whole : rest ≡ drop kept table = take_all (length table - kept) (drop kept table) (omega (arith, length-drop kept table)) in
    c.loop-rel.invariant ∙ ap (λ rels. c.cut.new.world ++ rels) (take_all c.loop-rel.rel-index rest (omega (arith, c.loop-rel-test.false)) ∙ whole)
    ∙ ap (λ rels. rels ++ drop kept table) (c.cut.ensures ∙ c.requires.same)
    ∙ take-append-drop kept table
