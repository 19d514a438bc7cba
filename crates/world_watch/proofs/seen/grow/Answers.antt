use Rattle.std.proofs.Common.{◌++◌, ◌∷◌, [], ap, ◌∙◌, arith}
use Rattle.rcc5_core.specs.RelationSet.{no_rels}
use Rattle.world_watch.specs.Kinds.{set_at}
use Rattle.world_watch.proofs.PairLemmas.{none_more}
use Rattle.world_watch.proofs.seen.grow.Goals as goal

pub loop-more-preserved : goal.loop-more-preserved
loop-more-preserved c = record {
  same = λ k. ap (λ sets. set_at sets k) c.in_ok-push.ensures.items ∙ ap (λ none. set_at (c.loop-more.sets.items ++ none ∷ []) k) c.none.ensures
      ∙ none_more no_rels c.loop-more.sets.items k ∙ c.loop-more.invariant.same k;
  long = omega (arith, c.in_ok-push.ensures.len);
}
