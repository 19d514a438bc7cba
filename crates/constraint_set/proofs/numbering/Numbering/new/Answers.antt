use Rattle.std.proofs.Common.{◌≡◌, ◌++◌, [], length, ap, ◌∙◌, subst, arith}
use Rattle.constraint_set.specs.Numbers.{AreBlockEnds, AreStarts, cross_row, inside_row, rows}
use Rattle.constraint_set.proofs.Rows.{numbering_made}
use Rattle.constraint_set.proofs.numbering.Numbering.new.Goals as goal

pub invariant_of-result : goal.invariant_of-result
invariant_of-result c =
    let ends = c.in_ok-ends.ends.items in
    let first = c.add_cross_rows.new.numbered.items in
    let none : c.new-numbered.result.items ≡ [] = c.new-numbered.ensures.items in
    let blocks : AreBlockEnds c.args.owners.items ends = subst (λ l. AreBlockEnds l ends) c.deref.ensures.value c.in_ok-ends.ensures in
    let same : c.deref-2.result.now ≡ ends = c.deref-2.ensures.value in
    let same2 : c.deref-3.result.now ≡ ends = c.deref-3.ensures.value in
    numbering_made c.args.owners.items ends c.in_ok-crossing.crossing.items c.in_ok-inside.inside.items first c.add_inside_rows.new.numbered.items c.len-cross.result
    c.requires.few blocks
    (c.in_ok-crossing.ensures.numbered ∙ ap (λ l. l ++ rows (cross_row c.deref-2.result.now) (length c.deref-2.result.now)) none ∙ ap (λ e. [] ++ rows (cross_row e) (length e)) same)
    (subst (λ e. AreStarts (cross_row e) 0 (length e) c.in_ok-crossing.crossing.items) same (subst (λ l. AreStarts (cross_row c.deref-2.result.now) (length l) (length c.deref-2.result.now) c.in_ok-crossing.crossing.items) none c.in_ok-crossing.ensures.starts))
    (omega (arith, c.len-cross.ensures))
    (c.in_ok-inside.ensures.numbered ∙ ap (λ e. first ++ rows (inside_row e) (length e)) same2)
    (subst (λ e. AreStarts (inside_row e) (length first) (length e) c.in_ok-inside.inside.items) same2 c.in_ok-inside.ensures.starts)
