use Rattle.std.proofs.Common.{◌≡◌, ◌+◌, ◌∙◌, ap, arith}
use Rattle.rcc5_core.specs.Region.{forced_regions}
use Rattle.world_model.specs.Node.{pair_at}
use Rattle.world_model.specs.Trial.{points_by_trial}
use Rattle.bit_rows.specs.Rows.{has_bit}
use Rattle.world_model.specs.Points.{forced_at}
use Rattle.point_frames.specs.Frames.{AreRegionsMet}
use Rattle.point_ladder.specs.Ladders.{bits_at, PairsMet}
use Rattle.point_frames.proofs.Needs.{owing_as, owing_more}
use Rattle.point_ladder.proofs.FirstFrame.{below_more, met_as}
use Rattle.point_ladder.proofs.start.add_pairs.Goals as goal

pub loop-pair-preserved : goal.loop-pair-preserved
loop-pair-preserved c =
    let p = c.args.problem.now in
    let points = points_by_trial p in
    let n = c.loop-pair.pair in
    let l = has_bit c.sides_of-sides.result.left.now in
    let r = has_bit c.sides_of-sides.result.right.now in
    let shows = c.sides_of-sides.ensures in
    let words : c.forced.result ≡ forced_at p n = c.forced.ensures ∙ ap forced_regions (c.requires.sets.each n _ (omega (arith, c.loop-pair-test.true, c.pair_count-pair-end.ensures))) in
    let start = c.args.frame.now.rows in
    let more = owing_more start c.loop-pair.frame.rows c.add_regions.new.self.rows (PairsMet p points n) (AreRegionsMet c.forced.result l r) c.loop-pair.invariant c.in_ok-add_regions.ensures.owing in
    owing_as start c.add_regions.new.self.rows (λ some. PairsMet p points n some × AreRegionsMet c.forced.result l r some) (PairsMet p points (n + 1)) more
    (λ some within.
    let both = below_more (λ k. AreRegionsMet (forced_at p k) (bits_at points (pair_at p k).0) (bits_at points (pair_at p k).1) some) n in
    let met = met_as c.forced.result (forced_at p n) l r (bits_at points (pair_at p n).0) (bits_at points (pair_at p n).1) some words shows.left shows.right in
    (λ h. both.0 (h.0, met.0 h.1), λ h. let parts = both.1 h in (parts.0, met.1 parts.1)))
