use Rattle.std.proofs.Common.{◌++◌, ap, ◌∙◌}
use Rattle.world_watch.specs.Counts.{count_in, counts_at}
use Rattle.world_watch.specs.Kinds.{tally_line}
use Rattle.merge_print.proofs.ListLemmas.{range_put}
use Rattle.world_watch.proofs.tally.put_lines.Goals as goal

pub loop-pair-preserved : goal.loop-pair-preserved
loop-pair-preserved c =
    range_put (λ k. tally_line c.args.problem.now (count_in (counts_at c.args.counts.now k)) k) _ _ _ c.loop-pair.pair c.loop-pair.invariant
    (c.in_ok-put_line.ensures ∙ ap (λ v. c.loop-pair.out.items ++ tally_line c.args.problem.now (count_in v) c.loop-pair.pair) c.counts_of.ensures)
