use Rattle.std.proofs.Common.{◌<◌, get_or, sym, subst, ap, ◌∙◌}
use Rattle.rcc5_core.specs.declared.Rel.TheVariants.{Disjoint}
use Rattle.world_watch.specs.Counts.{counting, counts_at}
use Rattle.world_watch.proofs.PairLemmas.{tally_more}
use Rattle.world_watch.proofs.tally.TallyWatcherWorldWatcher.see.Goals as goal

pub returns-clause-ok : goal.returns-clause-ok
returns-clause-ok c =
    tally_more c.args.problem.now c.args.table.now c.args.self.now.counts.items _
    (λ k lt. c.mark.ensures k (subst (λ n. k < n) (sym c.cross_count-count.ensures) lt)
    ∙ ap (λ s. counting s (get_or c.rels.result.now k Disjoint)) (c.in_ok-grow.ensures.same k)
    ∙ ap (λ t. counting (counts_at c.args.self.now.counts.items k) (get_or t k Disjoint)) c.rels.ensures)
