use Rattle.std.proofs.Common.{◌∙◌, ap, sym, ◌+◌, ◌&&◌}
use Rattle.world_model.specs.Points.{sums_from}
use Rattle.constraint_set.proofs.PointTests.{sums_got, sums_skipped}
use Rattle.point_pool.proofs.start.holds_if_kept.Goals as goal

pub returns-then-not-is_kept : goal.returns-then-not-is_kept
returns-then-not-is_kept c = sums_skipped c.args.bits.now c.args.problem.now c.args.index c.requires.within c.if-not-is_kept.ensures

pub returns : goal.returns
returns c =
    sums_got c.args.bits.now c.args.problem.now c.args.index c.articulation.result.now c.if-not-is_kept.ensures c.articulation.ensures.value ∙
    ap (λ b. b && sums_from c.args.bits.now c.args.problem.now (c.args.index + 1)) (sym c.sum_holds.ensures)
