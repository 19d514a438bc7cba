use Rattle.std.proofs.Common.{◌≡◌, ◌<◌, ◌*◌, ◌+◌, ℕ, true, length, get_or, ap, ◌∙◌, sym, subst, arith}
use Rattle.std.proofs.lemmas.Bool.{true≢false}
use Rattle.bit_rows.specs.Rows.{has_bit, word_bit}
use Rattle.bit_rows.proofs.WordBits.{has_at, word_zero}
use Rattle.point_table.proofs.places.Clearing.{risk_bit, bit_live}
use Rattle.point_table.proofs.places.places.Places.push_at_risk.Goals as goal

pub push_places-requires : goal.push_places-requires
push_places-requires c = λ j small bit.
    let s = c.args.self.now in
    let at = c.args.at in
    let below = subst (λ v. (k : ℕ) → has_bit v.live k ≡ true → k < length v.points) c.self.view_is c.self.invariant.below in
    let live : has_bit s.live (64 * at + j) ≡ word_bit c.word-2.result j = has_at s.live at j small ∙ ap (λ w. word_bit w j) (sym (c.word-2.ensures ∙ ap (λ v. get_or v.live at 0) c.self.view_is)) in
    let there = subst (λ v. 64 * at + j < length v.points) (sym c.self.view_is) (below (64 * at + j) (bit_live s at j c.word.result c.word-2.result c.clear_word.result live bit)) in
    omega (arith, there, c.self.inside.points.ok)

pub returns-in_ok-push_places-clause-there : goal.returns-in_ok-push_places-clause-there
returns-in_ok-push_places-clause-there c = λ j small risk.
    let s = c.args.self.now in
    let at = c.args.at in
    let below = subst (λ v. (k : ℕ) → has_bit v.live k ≡ true → k < length v.points) c.self.view_is c.self.invariant.below in
    let used : has_bit s.used (64 * at + j) ≡ word_bit c.word.result j = has_at s.used at j small ∙ ap (λ w. word_bit w j) (sym (c.word.ensures ∙ ap (λ v. get_or v.used at 0) c.self.view_is)) in
    let live : has_bit s.live (64 * at + j) ≡ word_bit c.word-2.result j = has_at s.live at j small ∙ ap (λ w. word_bit w j) (sym (c.word-2.ensures ∙ ap (λ v. get_or v.live at 0) c.self.view_is)) in
    c.in_ok-push_places.ensures.there j small (risk_bit s c.args.pair c.args.regions at j c.word.result c.word-2.result c.clear_word.result below small c.clear_word.type_inv used live c.clear_word.ensures risk)

pub returns-else-word-ne0-clause-there : goal.returns-else-word-ne0-clause-there
returns-else-word-ne0-clause-there c = λ j small risk.
    let s = c.args.self.now in
    let at = c.args.at in
    let below = subst (λ v. (k : ℕ) → has_bit v.live k ≡ true → k < length v.points) c.self.view_is c.self.invariant.below in
    let used : has_bit s.used (64 * at + j) ≡ word_bit c.word.result j = has_at s.used at j small ∙ ap (λ w. word_bit w j) (sym (c.word.ensures ∙ ap (λ v. get_or v.used at 0) c.self.view_is)) in
    let live : has_bit s.live (64 * at + j) ≡ word_bit c.word-2.result j = has_at s.live at j small ∙ ap (λ w. word_bit w j) (sym (c.word-2.ensures ∙ ap (λ v. get_or v.live at 0) c.self.view_is)) in
    let bit = risk_bit s c.args.pair c.args.regions at j c.word.result c.word-2.result c.clear_word.result below small c.clear_word.type_inv used live c.clear_word.ensures risk in
    absurd (true≢false (sym bit ∙ ap (λ w. word_bit w j) c.if-word-ne0.false ∙ word_zero j))
