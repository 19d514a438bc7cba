use Rattle.std.proofs.Common.{◌≡◌, ◌∙◌, ◌∷◌, [], ℕ, length, slice_get, Some, refl, sym, ap, subst, arith}
use Rattle.std.proofs.lemmas.List.{length-append}
use Rattle.rcc5_core.specs.declared.RelSet.{RelSet}
use Rattle.mir_report.specs.Possible.{IsPossibleSet}
use Rattle.mir_report.proofs.Claims.{sets_more}
use Rattle.mir_report.proofs.bare.ask_all.Goals as goal

pub pairs-init : goal.pairs-init
pairs-init c =
    let p = c.args.problem.now in
    record {
      shape = refl;
      help = c.requires.help;
      seen = c.in_ok-gather.ensures;
      count = ap length c.new-sets.ensures.items;
      each = subst (λ sets. (k : ℕ) (one : RelSet) → slice_get sets k ≡ Some one → IsPossibleSet p k one) (sym c.new-sets.ensures.items) (λ k one e. cc);
    }

pub pairs-preserved : goal.pairs-preserved
pairs-preserved c =
    let p = c.args.problem.now in
    let k = c.pairs.pair in
    let set = c.in_ok-set.set in
    let sets = c.pairs.sets.items in
    let more = c.in_ok-put.ensures in
    record {
      shape = c.ask_pair.ensures.shape ∙ c.pairs.invariant.shape;
      help = c.in_ok-set.ensures.help;
      seen = c.in_ok-set.ensures.seen;
      count =
          let long = ap length more in
          let all = length-append sets (set ∷ []) in
          let counted = c.pairs.invariant.count in
          omega (arith, long, all, counted);
      each = subst (λ sets. (k : ℕ) (one : RelSet) → slice_get sets k ≡ Some one → IsPossibleSet p k one) (sym more) (sets_more p k sets set c.pairs.invariant.each c.pairs.invariant.count c.in_ok-set.ensures.answer);
    }

pub returns-clause-sets : goal.returns-clause-sets
returns-clause-sets c = record {
  count = let counted = c.pairs.invariant.count in omega (arith, counted);
  each = c.pairs.invariant.each;
}
