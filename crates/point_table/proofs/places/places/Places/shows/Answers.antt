use Rattle.std.proofs.Common.{◌∙◌, ◌≤◌, length, get_or, refl, ap, subst, bit_and, arith}
use Rattle.std.proofs.lemmas.Bool.{false≢true}
use Rattle.bit_rows.proofs.WordBits.{fits_and, some_here, none_more}
use Rattle.point_table.specs.Places.Places.{shows_at}
use Rattle.point_table.proofs.places.Meeting.{shown_bits, none_shown}
use Rattle.point_table.proofs.places.places.Places.shows.Goals as goal

pub returns-then-word-met_word-ne0 : goal.returns-then-word-met_word-ne0
returns-then-word-met_word-ne0 c =
    let s = c.args.self.now in
    let at = c.loop-at.at in
    let u = c.word.result in
    let m = c.met_word.result in
    let tells = shown_bits s c.args.one c.args.other at u m (c.word.ensures ∙ ap (λ v. get_or v.used at 0) c.self.view_is) c.met_word.ensures in
    let some = some_here (shows_at s c.args.one c.args.other) at (bit_and u m) (fits_and u m c.word.type_inv) tells c.if-word-met_word-ne0.true in
    (λ h. some, λ h. refl)

pub loop-at-preserved : goal.loop-at-preserved
loop-at-preserved c =
    let s = c.args.self.now in
    let at = c.loop-at.at in
    let u = c.word.result in
    let m = c.met_word.result in
    let tells = shown_bits s c.args.one c.args.other at u m (c.word.ensures ∙ ap (λ v. get_or v.used at 0) c.self.view_is) c.met_word.ensures in
    none_more (shows_at s c.args.one c.args.other) at (bit_and u m) c.loop-at.invariant tells c.if-word-met_word-ne0.false

pub returns : goal.returns
returns c =
    let inside : length c.self.inside.used ≤ c.loop-at.at = omega (arith, c.len-at-end.ensures, c.loop-at-test.false) in
    let long = subst (λ v. length v.used ≤ c.loop-at.at) c.self.view_is inside in
    (λ h. absurd (false≢true h), λ some. absurd (none_shown c.args.self.now c.args.one c.args.other c.loop-at.at c.loop-at.invariant long some))
