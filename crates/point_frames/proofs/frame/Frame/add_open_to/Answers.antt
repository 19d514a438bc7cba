use Rattle.std.proofs.Common.{◌≤◌, ◌&&◌, subst, arith}
use Rattle.bit_rows.specs.Rows.{BitRows, has_bit, bit_in, in_cells}
use Rattle.point_frames.specs.declared.base.Base.{Base}
use Rattle.point_frames.specs.Frames.{IsOwing}
use Rattle.point_frames.specs.Joined.{joined, HaveSomeIn}
use Rattle.point_frames.proofs.Needs.{owing_as, owing_more}
use Rattle.point_frames.proofs.Joined.{on_ok, joined_left}
use Rattle.point_frames.proofs.frame.Frame.add_open_to.Goals as goal

pub returns : goal.returns
returns c =
    let own = c.self.inside.own in
    let base = c.self.inside.base.value.rows in
    let is = c.self.invariant in
    let l = has_bit c.args.sides.now.left.now in
    let r = has_bit c.args.sides.now.right.now in
    let cells = c.args.cells in
    let left = has_bit c.row-left.result.now in
    let old = c.args.next.now.rows in
    let mid = c.add_open.new.self.rows in
    let new = c.add_open-2.new.self.rows in
    let low : 2 ≤ base.count = omega (arith, is.grouped.two, is.grouped.within) in
    on_ok c.add_open-2.result c.add_open-2.ensures (λ owing.
    let more : IsOwing mid new (HaveSomeIn base left l r cells) = subst (λ (b : Base). IsOwing mid new (HaveSomeIn b.rows left l r cells)) c.deref.ensures owing in
    subst (λ (v : BitRows). IsOwing old new (HaveSomeIn v (bit_in v 0) l r cells)) c.self.view_is
    (owing_as old new (λ some. HaveSomeIn own left l r cells some × HaveSomeIn base left l r cells some) (HaveSomeIn (joined own base) (bit_in (joined own base) 0) l r cells) (owing_more old mid new (HaveSomeIn own left l r cells) (HaveSomeIn base left l r cells) c.in_ok-add_open.ensures more)
    (λ some within. joined_left own base left (λ x y k. (x && y && in_cells cells (l k) (r k)) && some k) c.row-left.ensures.bits is.width is.laid.1 low)))
