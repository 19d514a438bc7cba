use Rattle.std.proofs.Common.{◌++◌, ◌∷◌, [], ap, ◌∙◌, arith}
use Rattle.world_watch.specs.Counts.{counts_at, no_counts}
use Rattle.world_watch.proofs.PairLemmas.{none_more}
use Rattle.world_watch.proofs.tally.grow.Goals as goal

pub loop-more-preserved : goal.loop-more-preserved
loop-more-preserved c = record {
  same = λ k. ap (λ counts. counts_at counts k) c.in_ok-push.ensures.items ∙ ap (λ none. counts_at (c.loop-more.counts.items ++ none ∷ []) k) c.none.ensures
      ∙ none_more no_counts c.loop-more.counts.items k ∙ c.loop-more.invariant.same k;
  long = omega (arith, c.in_ok-push.ensures.len);
}
