use Rattle.std.proofs.Common.{◌+◌, false, set, refl, sym, ap, ◌∙◌, subst}
use Rattle.std.specs.Vec.{with_item}
use Rattle.world_model.specs.Trial.{points_by_trial}
use Rattle.bit_rows.specs.Rows.{has_bit}
use Rattle.point_ladder.specs.declared.bounds.Bounds.{Bounds}
use Rattle.point_ladder.specs.Bounds.{bound_to}
use Rattle.point_frames.specs.Frames.{IsNarrowed}
use Rattle.point_ladder.proofs.Served.{alive_here}
use Rattle.point_ladder.proofs.Bounded.{IsBounded, bounded_next, bounds_same, bounds_dead, bounds_fewer}
use Rattle.point_ladder.proofs.bounds.narrow_pair.Goals as goal

pub bound-set-requires : goal.bound-set-requires
bound-set-requires c =
    let p = c.args.problem.now in
    let b = c.args.bounds in
    let are = c.requires.bounds in
    let alive = are.lives.0 c.requires.alive in
    (alive_here (bound_to p b.sets.items b.count) (points_by_trial p) b.frame alive.allow (are.holds c.requires.alive) (are.frame c.requires.alive)).1 alive

pub returns-then-are_same-clause-bounds : goal.returns-then-are_same-clause-bounds
returns-then-are_same-clause-bounds c =
    let p = c.args.problem.now in
    let b = c.args.bounds in
    let l = has_bit c.sides_of-sides.result.left.now in
    let r = has_bit c.sides_of-sides.result.right.now in
    let old = c.index-old.result.now in
    let now = c.bound-set.result in
    let is : IsBounded p b l r old now = bounded_next p b c.args.pair l r old now c.requires.next (record {
      bounds = c.requires.bounds;
      alive = c.requires.alive;
      within = c.requires.within;
      shows = c.sides_of-sides.ensures;
      read = c.index-old.ensures;
      has_alive = c.bound-set.ensures;
    }) in
    bounds_same p b (record { sets = b.sets; count = c.args.pair + 1; alive = b.alive; frame = b.frame }) l r old now c.requires.bounds c.requires.alive is (c.are_same.ensures c.if-are_same.true)
    (ap {B = Bounds} (λ n. record { sets = b.sets; count = n + 1; alive = b.alive; frame = b.frame }) (sym c.requires.next))

pub returns-then-is_empty-clause-bounds : goal.returns-then-is_empty-clause-bounds
returns-then-is_empty-clause-bounds c =
    let p = c.args.problem.now in
    let b = c.args.bounds in
    let l = has_bit c.sides_of-sides.result.left.now in
    let r = has_bit c.sides_of-sides.result.right.now in
    let old = c.index-old.result.now in
    let now = c.bound-set.result in
    let is : IsBounded p b l r old now = bounded_next p b c.args.pair l r old now c.requires.next (record {
      bounds = c.requires.bounds;
      alive = c.requires.alive;
      within = c.requires.within;
      shows = c.sides_of-sides.ensures;
      read = c.index-old.ensures;
      has_alive = c.bound-set.ensures;
    }) in
    bounds_dead p b (record { sets = with_item b.sets c.args.pair now; count = c.args.pair + 1; alive = false; frame = b.frame }) l r old now c.requires.bounds is (sym c.is_empty.ensures ∙ c.if-is_empty.true)
    (ap (λ n. set b.sets.items n now) (sym c.requires.next)) (ap (λ n. n + 1) (sym c.requires.next)) refl

pub returns-clause-bounds : goal.returns-clause-bounds
returns-clause-bounds c =
    let p = c.args.problem.now in
    let b = c.args.bounds in
    let l = has_bit c.sides_of-sides.result.left.now in
    let r = has_bit c.sides_of-sides.result.right.now in
    let old = c.index-old.result.now in
    let now = c.bound-set.result in
    let is : IsBounded p b l r old now = bounded_next p b c.args.pair l r old now c.requires.next (record {
      bounds = c.requires.bounds;
      alive = c.requires.alive;
      within = c.requires.within;
      shows = c.sides_of-sides.ensures;
      read = c.index-old.ensures;
      has_alive = c.bound-set.ensures;
    }) in
    bounds_fewer p b (record { sets = with_item b.sets c.args.pair now; count = c.args.pair + 1; alive = b.alive; frame = c.in_ok-frame.frame }) l r old now c.requires.bounds c.requires.alive is (sym c.is_empty.ensures ∙ c.if-is_empty.false)
    (ap (λ n. set b.sets.items n now) (sym c.requires.next)) (ap (λ n. n + 1) (sym c.requires.next)) refl (subst (λ words. IsNarrowed b.frame c.in_ok-frame.frame l r words) c.forced.ensures c.in_ok-frame.ensures)
