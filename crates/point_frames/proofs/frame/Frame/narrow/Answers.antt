use Rattle.std.proofs.Common.{◌∙◌, ◌≤◌, ℕ, List, sym, ap, subst, arith}
use Rattle.bit_rows.specs.Rows.{BitRows, has_bit}
use Rattle.point_frames.specs.Frames.{AreRegionsMet, SayAlike, IsNarrowed, IsOwing}
use Rattle.point_frames.specs.Joined.{joined, StandsOn}
use Rattle.point_frames.proofs.Joined.{joined_narrowed}
use Rattle.point_frames.proofs.frame.Frame.narrow.Goals as goal

pub invariant_of-result : goal.invariant_of-result
invariant_of-result c =
    let s = c.self.inside in
    let is = c.self.invariant in
    let mid = c.write.new.self in
    let new = c.add_regions.new.self.rows in
    let owed = AreRegionsMet c.words_left-needed.result (has_bit c.args.sides.now.left.now) (has_bit c.args.sides.now.right.now) in
    let owing : IsOwing mid new owed = subst (λ (rows : BitRows). IsOwing rows new owed) c.in_ok-next.ensures c.in_ok-add_regions.ensures.owing in
    subst (λ (rows : BitRows). StandsOn rows s.base.value) (sym c.into_rows-own.ensures)
    (record { laid = (omega (arith, owing.width, c.write.ensures.width, is.laid.0), owing.rows_two); width = is.width ∙ sym (owing.width ∙ c.write.ensures.width); grouped = is.grouped })

pub returns : goal.returns
returns c =
    let own = c.self.inside.own in
    let base = c.self.inside.base.value.rows in
    let is = c.self.invariant in
    let mid = c.write.new.self in
    let new = c.add_regions.new.self.rows in
    let l = has_bit c.args.sides.now.left.now in
    let r = has_bit c.args.sides.now.right.now in
    let places = has_bit c.as_slice-places.result.now in
    let words = c.args.words in
    let needed = c.words_left-needed.result in
    let owing : IsOwing mid new (AreRegionsMet needed l r) = subst (λ (rows : BitRows). IsOwing rows new (AreRegionsMet needed l r)) c.in_ok-next.ensures c.in_ok-add_regions.ensures.owing in
    let alike : SayAlike (joined own base) l r needed words = subst (λ (v : BitRows). SayAlike v l r needed words) (sym c.self.view_is) c.words_left-needed.ensures in
    let low : 2 ≤ base.count = omega (arith, is.grouped.two, is.grouped.within) in
    subst (λ (rows : BitRows). IsNarrowed c.args.self (joined rows base) l r words) (sym c.into_rows-own.ensures)
    (subst (λ (v : BitRows). IsNarrowed v (joined new base) l r words) c.self.view_is
    (joined_narrowed own mid new base l r places words needed c.kept_cells.result c.kept_cells.ensures
    (λ k. ap (λ (items : List ℕ). has_bit items k) (c.as_slice-places.ensures.value ∙ c.in_ok-left.ensures.items) ∙ c.row.ensures.bits k)
    is.width is.laid.1 low c.write.ensures alike owing))
