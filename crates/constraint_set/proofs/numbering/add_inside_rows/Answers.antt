use Rattle.std.proofs.Common.{◌≡◌, ◌+◌, ◌++◌, ◌∷◌, [], length, get_or, ap, ◌∙◌, arith}
use Rattle.constraint_set.specs.Numbers.{inside_row}
use Rattle.constraint_set.proofs.Rows.{rows_step, short_row}
use Rattle.constraint_set.proofs.numbering.add_inside_rows.Goals as goal

pub loop-concept-preserved : goal.loop-concept-preserved
loop-concept-preserved c =
    let many : c.len.result ≡ length c.loop-concept.numbered.items = omega (arith, c.len.ensures) in
    rows_step (inside_row c.args.ends.now) c.args.numbered.now.items c.loop-concept.concept c.loop-concept.starts.items c.push.new.self.items c.loop-concept.numbered.items c.add_row.new.numbered.items
    c.loop-concept.invariant
    (c.in_ok-push.ensures.items ∙ ap (λ k. c.loop-concept.starts.items ++ k ∷ []) many)
    c.in_ok-add_row.ensures
    (short_row c.loop-concept.concept (c.loop-concept.concept + 1) (get_or c.args.ends.now c.loop-concept.concept 0) (omega (arith, c.requires.within c.loop-concept.concept, c.requires.few)))
