use Rattle.std.proofs.Common.{◌≡◌, ◌<◌, ◌∙◌, ℕ, true, get_or, length, ap, subst}
use Rattle.bit_rows.specs.Rows.{has_bit}
use Rattle.point_table.proofs.places.Meeting.{met_bits}
use Rattle.point_table.proofs.places.places.Places.met_word.Goals as goal

pub returns : goal.returns
returns c =
    let s = c.args.self.now in
    let below = subst (λ v. (k : ℕ) → has_bit v.live k ≡ true → k < length v.points) c.self.view_is c.self.invariant.below in
    met_bits s c.args.one c.args.other c.args.at c.word.result c.side_word.result c.side_word-2.result below (c.word.ensures ∙ ap (λ v. get_or v.live c.args.at 0) c.self.view_is) c.side_word.ensures c.side_word-2.ensures
