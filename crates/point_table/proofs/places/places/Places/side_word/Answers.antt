use Rattle.std.proofs.Common.{◌≡◌, ◌+◌, ◌-◌, ◌*◌, ◌<◌, ◌∙◌, ℕ, [], length, get_or, sym, ap, subst}
use Rattle.std.proofs.lemmas.List.{get_or_read}
use Rattle.bit_rows.specs.Rows.{word_bit}
use Rattle.world_model.specs.Alive.{point_at}
use Rattle.point_table.specs.Places.Places.{is_as}
use Rattle.point_table.proofs.places.Meeting.{side_on, side_off}
use Rattle.point_table.proofs.places.places.Places.side_word.Goals as goal

pub returns-then-side : goal.returns-then-side
returns-then-side c =
    let s = c.self.inside in
    let side = c.args.side in
    let within : side.0 < length s.with.items = subst (λ v. side.0 < v.concepts) (sym c.self.view_is) c.requires in
    let row : c.index.result.now ≡ get_or s.with.items side.0 [] = get_or_read s.with.items side.0 c.index.result.now within c.index.ensures [] in
    let word : c.word-word.result ≡ get_or (get_or s.with.items side.0 []) c.args.at 0 = c.word-word.ensures ∙ ap (λ r. get_or r c.args.at 0) row in
    subst (λ v. (j : ℕ) → j < 64 → 64 * c.args.at + j < length v.points → is_as (point_at v.points (64 * c.args.at + j)) side ≡ word_bit c.word-word.result j) c.self.view_is
    (side_on s.points.items s.with.items s.live side c.args.at c.word-word.result c.self.invariant within word c.if-side.true)

pub returns-else-side : goal.returns-else-side
returns-else-side c =
    let s = c.self.inside in
    let side = c.args.side in
    let within : side.0 < length s.with.items = subst (λ v. side.0 < v.concepts) (sym c.self.view_is) c.requires in
    let row : c.index.result.now ≡ get_or s.with.items side.0 [] = get_or_read s.with.items side.0 c.index.result.now within c.index.ensures [] in
    let word : c.word-word.result ≡ get_or (get_or s.with.items side.0 []) c.args.at 0 = c.word-word.ensures ∙ ap (λ r. get_or r c.args.at 0) row in
    subst (λ v. (j : ℕ) → j < 64 → 64 * c.args.at + j < length v.points → is_as (point_at v.points (64 * c.args.at + j)) side ≡ word_bit (18446744073709551615 - c.word-word.result) j) c.self.view_is
    (side_off s.points.items s.with.items s.live side c.args.at c.word-word.result c.self.invariant within word c.word-word.type_inv c.if-side.false)
