use Rattle.std.proofs.Common.{◌++◌, ap, ◌∙◌}
use Rattle.world_watch.specs.Counts.{count_in, counts_at}
use Rattle.world_watch.specs.Kinds.{tally_lines}
use Rattle.world_watch.proofs.PairLemmas.{tally_end}
use Rattle.world_watch.proofs.tally.TallyWatcherWorldWatcher.report.Goals as goal

pub returns : goal.returns
returns c =
    c.in_ok-put_lines.ensures ∙ ap (λ front. front ++ tally_lines c.args.problem.now (λ k. count_in (counts_at c.deref.result.now k))) c.new-report.ensures.items
    ∙ ap (λ counts. tally_lines c.args.problem.now (λ k. count_in (counts_at counts k))) c.deref.ensures.value
    ∙ tally_end c.args.problem.now c.args.self.now.counts.items
