use Rattle.std.proofs.Common.{◌<◌, ◌≤◌, ◌↔◌, ◌&&◌, ℕ, sym, subst, arith}
use Rattle.std.specs.Prelude.{IsTrue}
use Rattle.bit_rows.specs.Rows.{BitRows, SomePlace, has_bit, in_cells}
use Rattle.point_frames.specs.declared.base.Base.{Base}
use Rattle.point_frames.specs.Frames.{open_at}
use Rattle.point_frames.specs.Groups.{AreMetBelow}
use Rattle.point_frames.proofs.Frames.{not_met}
use Rattle.point_frames.proofs.Joined.{joined_left}
use Rattle.point_frames.proofs.frame.Frame.open_met.Goals as goal

pub returns-then-is_met : goal.returns-then-is_met
returns-then-is_met c =
    let own = c.self.inside.own in
    let base = c.self.inside.base.value.rows in
    let is = c.self.invariant in
    let l = has_bit c.args.sides.now.left.now in
    let r = has_bit c.args.sides.now.right.now in
    let left = has_bit c.row-left.result.now in
    let low : 2 ≤ base.count = omega (arith, is.grouped.two, is.grouped.within) in
    let both = joined_left own base left (λ x y k. x && y && in_cells c.args.cells (l k) (r k)) c.row-left.ensures.bits is.width is.laid.1 low in
    let met : AreMetBelow base left l r c.args.cells base.count = subst (λ (b : Base). AreMetBelow b.rows left l r c.args.cells b.rows.count) c.deref.ensures (c.is_met.ensures.0 c.if-is_met.true) in
    subst (λ (v : BitRows). IsTrue c.are_met_from.result ↔ ((q : ℕ) → 2 ≤ q → q < v.count → SomePlace (open_at v l r c.args.cells q))) c.self.view_is
    (λ h. both.0 (c.are_met_from.ensures.0 h, met), λ all. c.are_met_from.ensures.1 (both.1 all).0)

pub returns-else-is_met : goal.returns-else-is_met
returns-else-is_met c =
    let own = c.self.inside.own in
    let base = c.self.inside.base.value.rows in
    let is = c.self.invariant in
    let l = has_bit c.args.sides.now.left.now in
    let r = has_bit c.args.sides.now.right.now in
    let left = has_bit c.row-left.result.now in
    let low : 2 ≤ base.count = omega (arith, is.grouped.two, is.grouped.within) in
    let both = joined_left own base left (λ x y k. x && y && in_cells c.args.cells (l k) (r k)) c.row-left.ensures.bits is.width is.laid.1 low in
    subst (λ (v : BitRows). IsTrue c.is_met.result ↔ ((q : ℕ) → 2 ≤ q → q < v.count → SomePlace (open_at v l r c.args.cells q))) c.self.view_is
    (λ h. absurd (not_met c.is_met.result c.if-is_met.false h), λ all. c.is_met.ensures.1 (subst (λ (b : Base). AreMetBelow b.rows left l r c.args.cells b.rows.count) (sym c.deref.ensures) (both.1 all).1))
