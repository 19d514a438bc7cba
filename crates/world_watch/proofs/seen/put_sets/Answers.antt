use Rattle.std.proofs.Common.{◌++◌, ap, ◌∙◌}
use Rattle.rcc5_core.specs.RelationSet.{has}
use Rattle.world_watch.specs.Kinds.{seen_line, set_at}
use Rattle.merge_print.proofs.ListLemmas.{range_put}
use Rattle.world_watch.proofs.seen.put_sets.Goals as goal

pub loop-pair-preserved : goal.loop-pair-preserved
loop-pair-preserved c =
    range_put (λ k. seen_line c.args.problem.now (has (set_at c.args.sets.now k)) k) _ _ _ c.loop-pair.pair c.loop-pair.invariant
    (c.in_ok-put_line.ensures ∙ ap (λ v. c.loop-pair.out.items ++ seen_line c.args.problem.now (has v) c.loop-pair.pair) c.set_of.ensures)
