use Rattle.std.proofs.Common.{◌<◌, get_or, sym, subst, ap, ◌∙◌}
use Rattle.rcc5_core.specs.declared.Rel.TheVariants.{Disjoint}
use Rattle.rcc5_core.specs.RelationSet.{adding}
use Rattle.world_watch.specs.Kinds.{set_at}
use Rattle.world_watch.proofs.PairLemmas.{seen_more}
use Rattle.world_watch.proofs.seen.SeenWatcherWorldWatcher.see.Goals as goal

pub returns-clause-ok : goal.returns-clause-ok
returns-clause-ok c =
    seen_more c.args.problem.now c.args.table.now c.args.self.now.sets.items _
    (λ k lt. c.mark.ensures k (subst (λ n. k < n) (sym c.cross_count-count.ensures) lt)
    ∙ ap (λ s. adding s (get_or c.rels.result.now k Disjoint)) (c.in_ok-grow.ensures.same k)
    ∙ ap (λ t. adding (set_at c.args.self.now.sets.items k) (get_or t k Disjoint)) c.rels.ensures)
