use Rattle.std.proofs.Common.{◌≡◌, ◌*◌, ◌+◌, ◌<◌, ℕ, true, length, sym, subst, arith}
use Rattle.bit_rows.specs.Rows.{has_bit}
use Rattle.std.specs.Int.{trailing_zeros, w64}
use Rattle.point_table.specs.Places.Places.{meets}
use Rattle.point_table.proofs.places.Meeting.{met_first, none_in_more}
use Rattle.point_table.proofs.places.places.Places.next_met.Goals as goal

pub overflow_mul-result : goal.overflow_mul-result
overflow_mul-result c =
    let s = c.args.self.now in
    let below = subst (λ v. (k : ℕ) → has_bit v.live k ≡ true → k < length v.points) c.self.view_is c.self.invariant.below in
    let first = met_first s c.args.from c.loop-at.at c.met_word-word.result c.args.one c.args.other below c.if-word-ne0.true c.met_word-word.type_inv (omega (arith, c.loop-at.auto)) c.met_word-word.ensures c.loop-at.invariant in
    let there = subst (λ v. 64 * c.loop-at.at + trailing_zeros w64 c.met_word-word.result < length v.points) (sym c.self.view_is) first.there in
    omega (arith, there, c.self.inside.points.ok)

pub overflow_add-result : goal.overflow_add-result
overflow_add-result c =
    let s = c.args.self.now in
    let below = subst (λ v. (k : ℕ) → has_bit v.live k ≡ true → k < length v.points) c.self.view_is c.self.invariant.below in
    let first = met_first s c.args.from c.loop-at.at c.met_word-word.result c.args.one c.args.other below c.if-word-ne0.true c.met_word-word.type_inv (omega (arith, c.loop-at.auto)) c.met_word-word.ensures c.loop-at.invariant in
    let there = subst (λ v. 64 * c.loop-at.at + trailing_zeros w64 c.met_word-word.result < length v.points) (sym c.self.view_is) first.there in
    omega (arith, there, c.self.inside.points.ok)

pub returns-then-word-ne0-clause-some : goal.returns-then-word-ne0-clause-some
returns-then-word-ne0-clause-some c =
    let s = c.args.self.now in
    let below = subst (λ v. (k : ℕ) → has_bit v.live k ≡ true → k < length v.points) c.self.view_is c.self.invariant.below in
    met_first s c.args.from c.loop-at.at c.met_word-word.result c.args.one c.args.other below c.if-word-ne0.true c.met_word-word.type_inv (omega (arith, c.loop-at.auto)) c.met_word-word.ensures c.loop-at.invariant

pub loop-at-preserved : goal.loop-at-preserved
loop-at-preserved c =
    none_in_more (meets c.args.self.now c.args.one c.args.other) (64 * c.args.from) c.loop-at.at c.met_word-word.result c.loop-at.invariant c.met_word-word.ensures c.if-word-ne0.false
