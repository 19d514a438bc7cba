use Rattle.std.proofs.Common.{ap, ◌∙◌, arith}
use Rattle.std.proofs.lemmas.List.{length-set}
use Rattle.rcc5_core.specs.declared.Rel.TheVariants.{Disjoint}
use Rattle.rcc5_core.specs.RelationSet.{adding, no_rels}
use Rattle.world_watch.specs.Kinds.{set_at}
use Rattle.world_watch.proofs.PairLemmas.{marked_more, others_kept}
use Rattle.world_watch.proofs.seen.mark.Goals as goal

pub loop-pair-preserved : goal.loop-pair-preserved
loop-pair-preserved c =
    let set = ap (λ sets. set_at sets c.loop-pair.pair) c.deref.ensures.value ∙ c.loop-pair.invariant.others c.loop-pair.pair (omega arith) in
    record {
      counted = length-set c.loop-pair.sets.items c.loop-pair.pair c.with-more.result ∙ c.loop-pair.invariant.counted;
      marked = marked_more adding no_rels Disjoint c.args.sets.now.items c.loop-pair.sets.items c.args.rels.now c.loop-pair.pair c.with-more.result (omega arith) c.loop-pair.invariant.marked
          (c.with-more.ensures ∙ ap (λ s. adding s c.rel_at.result) (c.set_of.ensures ∙ set) ∙ ap (adding (set_at c.args.sets.now.items c.loop-pair.pair)) c.rel_at.ensures);
      others = others_kept no_rels c.args.sets.now.items c.loop-pair.sets.items c.loop-pair.pair c.with-more.result c.loop-pair.invariant.others;
    }
