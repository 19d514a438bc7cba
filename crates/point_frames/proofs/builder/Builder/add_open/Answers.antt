use Rattle.std.proofs.Common.{ℕ, Bool, ◌+◌, ◌<◌, ◌≤◌, ◌&&◌, arith}
use Rattle.bit_rows.specs.Rows.{has_bit, bit_in, in_cells, SomePlace}
use Rattle.point_frames.proofs.Frames.{some_as}
use Rattle.point_frames.proofs.Needs.{owing_as, owing_more, each_more}
use Rattle.point_frames.proofs.builder.Builder.add_open.Goals as goal

pub loop-row-preserved : goal.loop-row-preserved
loop-row-preserved c =
    let old = c.args.more.now in
    let l = has_bit c.args.sides.now.left.now in
    let r = has_bit c.args.sides.now.right.now in
    let n = c.loop-row.row in
    let owed : ℕ → (ℕ → Bool) → Type 0 = λ q some. SomePlace (λ k. (bit_in old q k && has_bit c.args.left.now k && in_cells c.args.cells (l k) (r k)) && some k) in
    let below : (ℕ → Bool) → Type 0 = λ some. (q : ℕ) → 2 ≤ q → q < n → owed q some in
    let pushed : (ℕ → Bool) → Type 0 = λ some. SomePlace (λ k. (has_bit c.row.result.now k && has_bit c.args.left.now k && in_cells c.args.cells (l k) (r k)) && some k) in
    let more = owing_more c.args.self.now.rows c.loop-row.self.rows c.add_need.new.self.rows below pushed c.loop-row.invariant c.in_ok-add_need.ensures.owing in
    owing_as c.args.self.now.rows c.add_need.new.self.rows (λ some. below some × pushed some) (λ some. (q : ℕ) → 2 ≤ q → q < n + 1 → owed q some) more
    (λ some within.
    let both = each_more (λ q. owed q some) n c.loop-row.auto.row in
    let show = some_as (λ x k. (x && has_bit c.args.left.now k && in_cells c.args.cells (l k) (r k)) && some k) (has_bit c.row.result.now) (bit_in old n) c.row.ensures.bits in
    (λ h. both.0 (h.0, show.0 h.1), λ h. let parts = both.1 h in (parts.0, show.1 parts.1)))

pub returns : goal.returns
returns c =
    let old = c.args.more.now in
    let l = has_bit c.args.sides.now.left.now in
    let r = has_bit c.args.sides.now.right.now in
    let owed : ℕ → (ℕ → Bool) → Type 0 = λ q some. SomePlace (λ k. (bit_in old q k && has_bit c.args.left.now k && in_cells c.args.cells (l k) (r k)) && some k) in
    owing_as c.args.self.now.rows c.loop-row.self.rows (λ some. (q : ℕ) → 2 ≤ q → q < c.loop-row.row → owed q some) (λ some. (q : ℕ) → 2 ≤ q → q < old.count → owed q some) c.loop-row.invariant
    (λ some within. (
      λ h q low small. h q low (omega (arith, small, c.loop-row-test.false, c.count-row-end.ensures)),
      λ h q low small. h q low (omega (arith, small, c.requires.two, c.loop-row.auto.row-end, c.count-row-end.ensures)),
    ))
