use Rattle.std.proofs.Common.{◌≡◌, ◌∙◌, ℕ, Bool, true, not, length, ap, subst}
use Rattle.std.specs.Prelude.{nat_lt, ◌==◌}
use Rattle.std.proofs.lemmas.Bool.{and_parts}
use Rattle.bit_rows.specs.Rows.{SomePlace}
use Rattle.point_encode.specs.Model.Forced.{need_at}
use Rattle.point_table.specs.Places.Places.{meets_clear}
use Rattle.world_model.specs.Alive.{bit_of, is_in_need, point_at}
use Rattle.world_model.specs.Node.{pair_at}
use Rattle.point_pool.proofs.Losing.{left_there, sides_in}
use Rattle.point_pool.proofs.pool.Pool.leaves_one.Goals as goal

pub returns-in-Concept : goal.returns-in-Concept
returns-in-Concept c = λ yes.
    let w = c.args.self.now in
    let one : ℕ × Bool = (c.in-Concept.concept, true) in
    let pair = c.pair_at-pair.ensures.value ∙ ap (λ p. pair_at p c.len.result) c.problem.ensures ∙ ap (pair_at w.cursor.problem) c.len.ensures in
    let need = c.in-Concept.ensures.value ∙ ap (λ p. need_at p c.args.number) c.problem-2.ensures in
    let some = subst (λ q. SomePlace (meets_clear w.places one one q c.row.result)) pair (c.has_clear.ensures yes) in
    left_there c.positions_narrow.ensures w c.args.rel c.args.number one one c.requires.kept c.facts.ensures c.requires.within c.requires.allowed
    (λ place h. subst (λ n. is_in_need n (point_at w.places.points place) ≡ true) need (and_parts (bit_of (point_at w.places.points place) c.in-Concept.concept) _ h).0)
    (subst (λ r. SomePlace (meets_clear w.places one one (pair_at w.cursor.problem (length w.cursor.path)) r)) c.row.ensures some)

pub returns-in-Region : goal.returns-in-Region
returns-in-Region c = λ yes.
    let w = c.args.self.now in
    let x = c.in-Region.x in
    let y = c.in-Region.y in
    let part = c.in-Region.part in
    let one : ℕ × Bool = (x, nat_lt part 2) in
    let other : ℕ × Bool = (y, not (part == 0)) in
    let pair = c.pair_at-pair.ensures.value ∙ ap (λ p. pair_at p c.len.result) c.problem.ensures ∙ ap (pair_at w.cursor.problem) c.len.ensures in
    let need = c.in-Region.ensures.value ∙ ap (λ p. need_at p c.args.number) c.problem-2.ensures in
    let some = subst (λ q. SomePlace (meets_clear w.places one other q c.row-in-Region.result)) pair (c.has_clear-in-Region.ensures yes) in
    left_there c.positions_narrow.ensures w c.args.rel c.args.number one other c.requires.kept c.facts.ensures c.requires.within c.requires.allowed
    (λ place h. subst (λ n. is_in_need n (point_at w.places.points place) ≡ true) need (sides_in (bit_of (point_at w.places.points place) x) (bit_of (point_at w.places.points place) y) part h))
    (subst (λ r. SomePlace (meets_clear w.places one other (pair_at w.cursor.problem (length w.cursor.path)) r)) c.row-in-Region.ensures some)
