use Rattle.std.proofs.Common.{refl}
use Rattle.std.proofs.lemmas.Bool.{false≢true}
use Rattle.bit_rows.specs.Rows.{has_bit, bit_in}
use Rattle.point_frames.specs.Frames.{left_at}
use Rattle.point_frames.proofs.Frames.{not_met, met_left, met_mask, left_within, none_empty, some_empty, met_by_cells, left_all, left_satisfies, left_open, must_left, satisfies_more}
use Rattle.point_frames.proofs.frame.Frame.leads_by.Goals as goal

pub returns-then-not-has_occupied : goal.returns-then-not-has_occupied
returns-then-not-has_occupied c =
    let rows = c.args.self.now in
    let l = has_bit c.args.sides.now.left.now in
    let r = has_bit c.args.sides.now.right.now in
    let words = c.args.words in (
      λ h. absurd (false≢true h),
      λ h. absurd (not_met c.has_occupied.result c.if-not-has_occupied.true (c.has_occupied.ensures.1 ((met_by_cells words (bit_in rows 0) l r c.args.seen.all c.requires.seen.all).1
          (met_mask words l r (left_at rows l r words) (bit_in rows 0) (left_within rows l r words) h.1)))),
    )

pub returns-then-not-has_empty : goal.returns-then-not-has_empty
returns-then-not-has_empty c =
    let rows = c.args.self.now in
    let l = has_bit c.args.sides.now.left.now in
    let r = has_bit c.args.sides.now.right.now in
    let words = c.args.words in
    let none = none_empty words (bit_in rows 0) l r c.args.seen.all c.requires.seen.all (λ some. not_met c.has_empty.result c.if-not-has_empty.true (c.has_empty.ensures.1 some)) in (
      λ h. (
        satisfies_more rows rows.count (bit_in rows 0) (left_at rows l r words) (left_all rows l r words none) c.requires.alive,
        met_left rows l r words ((met_by_cells words (bit_in rows 0) l r c.args.seen.all c.requires.seen.all).0 (c.has_occupied.ensures.0 c.if-not-has_occupied.false)),
      ),
      λ h. refl,
    )

pub returns-then-has_empty : goal.returns-then-has_empty
returns-then-has_empty c =
    let rows = c.args.self.now in
    let l = has_bit c.args.sides.now.left.now in
    let r = has_bit c.args.sides.now.right.now in
    let words = c.args.words in (
      λ h. absurd (false≢true h),
      λ h. absurd (some_empty words (bit_in rows 1) l r c.args.seen.must c.requires.seen.must (c.has_empty-2.ensures.0 c.if-has_empty.true) (must_left rows l r words h.0)),
    )

pub returns : goal.returns
returns c =
    let rows = c.args.self.now in
    let l = has_bit c.args.sides.now.left.now in
    let r = has_bit c.args.sides.now.right.now in
    let words = c.args.words in
    let kept = c.kept_cells.result in
    let none = none_empty words (bit_in rows 1) l r c.args.seen.must c.requires.seen.must (λ some. not_met c.has_empty-2.result c.if-has_empty.false (c.has_empty-2.ensures.1 some)) in (
      λ h. (
        left_satisfies rows l r words kept c.kept_cells.ensures c.requires.alive none (c.open_met.ensures.0 h),
        met_left rows l r words ((met_by_cells words (bit_in rows 0) l r c.args.seen.all c.requires.seen.all).0 (c.has_occupied.ensures.0 c.if-not-has_occupied.false)),
      ),
      λ h. c.open_met.ensures.1 (left_open rows l r words kept c.kept_cells.ensures h.0),
    )
