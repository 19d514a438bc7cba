use Rattle.std.proofs.Common.{◌≡◌, ◌<◌, refl, sym, ap, ◌∙◌, subst, arith, length, get_or}
use Rattle.bit_rows.specs.Rows.{bit_in}
use Rattle.point_table.proofs.Begins.{uncovered_is_dead}
use Rattle.point_table.proofs.rules.Rules.covers_may_hold.Goals as goal

pub returns-then-is_inside : goal.returns-then-is_inside
returns-then-is_inside c = λ h p begin are tried.
    let found = c.in-Some-get.ensures.lookup in
    let number = get_or c.deref-number-items.result.now c.loop-number.number-index 0 in
    let heads : c.deref-in-loop-number.result.now ≡ c.args.self.now.heads.items = c.deref-in-loop-number.ensures.value in
    let small : number < length c.args.self.now.heads.items = subst (λ xs. number < length xs) heads found.3.0 in
    let head : c.in-Some-get.head.now ≡ get_or c.args.self.now.heads.items number 0 = found.3.1 0 ∙ ap (λ xs. get_or xs number 0) heads in
    uncovered_is_dead p begin c.args.known.now c.args.self.now number 0 are tried (omega (arith, small, c.requires.fit.heads_counted))
    (ap (bit_in c.args.known.now 0) (sym head) ∙ sym (c.row-yes.ensures.bits c.in-Some-get.head.now) ∙ sym c.if-has_bit.ensures)
    (λ k there. sym (c.row-none.ensures.bits k) ∙ c.if-is_inside.ensures.0 refl k (c.row.ensures.bits k ∙ there))
