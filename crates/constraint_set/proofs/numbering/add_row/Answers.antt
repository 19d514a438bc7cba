use Rattle.std.proofs.Common.{◌≡◌, ◌-◌, ◌∷◌, [], ◌++◌, sym, ap, ◌∙◌, arith}
use Rattle.std.proofs.lemmas.List.{append_assoc}
use Rattle.constraint_set.specs.Numbers.{row}
use Rattle.constraint_set.proofs.Rows.{row_more, row_end}
use Rattle.constraint_set.proofs.numbering.add_row.Goals as goal

pub loop-other-preserved : goal.loop-other-preserved
loop-other-preserved c =
    let mine = row c.args.concept c.args.from c.loop-other.other in
    c.in_ok-push.ensures.items
    ∙ ap (λ l. l ++ ((c.args.concept, c.loop-other.other) ∷ [])) c.loop-other.invariant
    ∙ append_assoc c.args.numbered.now.items mine ((c.args.concept, c.loop-other.other) ∷ [])
    ∙ ap (λ l. c.args.numbered.now.items ++ l) (sym (row_more c.args.concept c.args.from c.loop-other.other c.loop-other.auto.other))

pub returns : goal.returns
returns c =
    c.loop-other.invariant ∙ ap (λ l. c.args.numbered.now.items ++ l) (row_end c.args.concept c.args.from c.loop-other.other c.args.to (let same : c.loop-other.other ≡ c.args.to = omega (arith, c.loop-other.auto.other-end c.requires.order) in ap (λ n. n - c.args.from) same))
