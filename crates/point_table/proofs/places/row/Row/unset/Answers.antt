use Rattle.std.proofs.Common.{◌/◌, ◌-◌, ◌<◌, ◌∙◌, length, set, refl, subst, false, bit_and, arith}
use Rattle.std.proofs.lemmas.Grind.{get_or_default_zero}
use Rattle.point_table.specs.Places.Places.{IsChanged}
use Rattle.point_table.proofs.places.Bits.{bit_unset, past_end}
use Rattle.point_table.proofs.places.row.Row.unset.Goals as goal

pub returns-then-place-len-clause-unset : goal.returns-then-place-len-clause-unset
returns-then-place-len-clause-unset c =
    let words = c.self.inside.words in
    let within : c.args.place / 64 < length words.items = omega (arith, words.ok, c.len.ensures, c.if-place-len.true) in
    subst (λ v. IsChanged v (set words.items (c.args.place / 64) (bit_and c.index-word.result.now (18446744073709551615 - c.with_bit.result))) c.args.place false) c.self.view_is
    (bit_unset words.items c.args.place c.index-word.result.now c.with_bit.result within (c.index-word.ensures ∙ get_or_default_zero words.items (c.args.place / 64) c.index-word.result.now within)
    c.with_bit.type_inv c.with_bit.ensures)

pub returns-else-place-len-clause-unset : goal.returns-else-place-len-clause-unset
returns-else-place-len-clause-unset c =
    subst (λ v. IsChanged v v c.args.place false) c.self.view_is (record {
      here = past_end c.self.inside.words.items c.args.place (omega (arith, c.self.inside.words.ok, c.len.ensures, c.if-place-len.false));
      others = λ k h. refl;
    })
