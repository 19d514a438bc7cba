use Rattle.std.proofs.Common.{◌≡◌, ◌<◌, ℕ, true, length, subst, bit_and}
use Rattle.bit_rows.specs.Rows.{has_bit}
use Rattle.bit_rows.proofs.WordBits.{fits_and, some_here}
use Rattle.point_table.specs.Places.Places.{meets_clear}
use Rattle.point_table.proofs.places.Clearing.{clear_met}
use Rattle.point_table.proofs.places.places.Places.has_clear.Goals as goal

pub returns-then-met_word-clear_word-ne0 : goal.returns-then-met_word-clear_word-ne0
returns-then-met_word-clear_word-ne0 c = λ _.
    let s = c.args.self.now in
    let at = c.loop-at.at in
    let m = c.met_word.result in
    let a = c.clear_word.result in
    let below = subst (λ v. (k : ℕ) → has_bit v.live k ≡ true → k < length v.points) c.self.view_is c.self.invariant.below in
    some_here (meets_clear s c.args.one c.args.other c.args.pair c.args.regions) at (bit_and m a) (fits_and m a c.met_word.type_inv)
    (clear_met s c.args.one c.args.other c.args.pair c.args.regions at m a below c.met_word.ensures c.clear_word.ensures) c.if-met_word-clear_word-ne0.true
