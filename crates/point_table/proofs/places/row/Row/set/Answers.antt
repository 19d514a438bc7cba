use Rattle.std.proofs.Common.{◌/◌, ◌<◌, ◌∙◌, length, set, sym, subst, true}
use Rattle.std.proofs.lemmas.Grind.{get_or_default_zero}
use Rattle.point_table.specs.Places.Places.{IsChanged}
use Rattle.point_table.proofs.places.Bits.{bit_set}
use Rattle.point_table.proofs.places.row.Row.set.Goals as goal

pub returns-clause-set : goal.returns-clause-set
returns-clause-set c =
    let words = c.self.inside.words.items in
    let within : c.args.place / 64 < length words = subst (λ v. c.args.place / 64 < length v) (sym c.self.view_is) c.requires in
    subst (λ v. IsChanged v (set words (c.args.place / 64) c.with_bit.result) c.args.place true) c.self.view_is
    (bit_set words c.args.place c.index-word.result.now c.with_bit.result within (c.index-word.ensures ∙ get_or_default_zero words (c.args.place / 64) c.index-word.result.now within) c.with_bit.ensures)
