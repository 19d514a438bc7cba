use Rattle.std.proofs.Common.{◌++◌, map, ap, ◌∙◌, arith}
use Rattle.world_model.specs.Alive.{needs_at}
use Rattle.world_model.specs.Node.{pair_at}
use Rattle.point_encode.specs.Needs.{need_seen}
use Rattle.point_encode.proofs.NeedLists.{pair_needed}
use Rattle.point_encode.proofs.need.needs_of.Goals as goal

pub loop-pair-preserved : goal.loop-pair-preserved
loop-pair-preserved c =
    let p = c.args.problem.now in
    let done = map (need_seen p) c.loop-pair.needs.items in
    let k = c.loop-pair.pair in
    record {
      left = pair_needed p c.args.prefix.now done _ _ k (omega arith)
          (c.in_ok-add_needs_at.ensures.value ∙ ap (λ words. done ++ needs_at (pair_at p k, words)) c.forced_at.ensures) c.loop-pair.invariant.left;
      range = c.in_ok-add_needs_at.ensures.range;
    }
