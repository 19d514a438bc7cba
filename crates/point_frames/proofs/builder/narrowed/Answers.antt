use Rattle.std.proofs.Common.{ℕ, Bool, ◌+◌, ◌≡◌, ◌<◌, ◌≤◌, ◌&&◌, ◌∙◌, sym, ap, subst, arith}
use Rattle.bit_rows.specs.Rows.{has_bit, bit_in, in_cells, SomePlace, IsPushed}
use Rattle.point_frames.specs.Frames.{AreRegionsMet, IsOwing}
use Rattle.point_frames.proofs.Joined.{if_ok, owing_first}
use Rattle.point_frames.proofs.Needs.{owing_more, narrowed_from, mask_pushed}
use Rattle.point_frames.proofs.builder.narrowed.Goals as goal

pub returns : goal.returns
returns c =
    let old = c.args.frame.now in
    let l = has_bit c.args.sides.now.left.now in
    let r = has_bit c.args.sides.now.right.now in
    let words = c.args.words in
    let kept = c.kept_cells-kept.result in
    let must = has_bit c.must.result.now in
    let one = c.push.new.self in
    let two = c.in_ok-next.next.rows in
    let pushed = c.in_ok-push.ensures in
    let second : IsPushed one two must = subst (λ v. IsPushed one v must) (sym c.in_ok-next.ensures) c.in_ok-push_copy.ensures in
    let counted : one.count ≡ 1 = pushed.count ∙ ap (λ n. n + 1) c.new-rows.ensures.count in
    let open_rows : (ℕ → Bool) → Type 0 = λ some. (q : ℕ) → 2 ≤ q → q < old.count → SomePlace (λ k. (bit_in old q k && bit_in old 0 k && in_cells kept (l k) (r k)) && some k) in
    let regions : IsOwing two c.add_regions.new.self.rows (AreRegionsMet words l r) = c.in_ok-add_regions.ensures.owing in
    if_ok _ _ c.finish.result c.finish.ensures (λ next first.
    narrowed_from old two next l r words kept c.kept_cells-kept.ensures
    (second.count ∙ ap (λ n. n + 1) counted)
    (second.width ∙ pushed.width ∙ c.new-rows.ensures.width ∙ c.width.ensures.width)
    (λ k. second.before 0 k (omega (arith, counted)) ∙ ap (λ n. bit_in one n k) (sym c.new-rows.ensures.count) ∙ pushed.there k ∙
    mask_pushed old l r words (has_bit c.left-left.result.now) kept c.kept_cells-kept.ensures c.left-left.ensures.bits k)
    (λ k. ap (λ n. bit_in two n k) (sym counted) ∙ second.there k ∙ c.must.ensures.bits k)
    (owing_first two c.add_open_to.new.next.rows next (λ some. AreRegionsMet words l r some × open_rows some) (owing_more two c.add_regions.new.self.rows c.add_open_to.new.next.rows (AreRegionsMet words l r) open_rows regions c.in_ok-add_open_to.ensures) first))
