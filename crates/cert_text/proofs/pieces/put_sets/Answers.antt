use Rattle.std.proofs.Common.{◌≡◌, ◌<◌, ◌^◌, All, Vec, Global, ℕ, get_or, length, arith, inl, inr, sym, ap, ◌∙◌, subst}
use Rattle.std.proofs.lemmas.Grind.{common_steps}
use Rattle.std.proofs.lemmas.Bool.{cases_lt}
use Rattle.std.proofs.lemmas.List.{get_or_default}
use Rattle.cert_text.proofs.pieces.put_sets.Goals as goal

pub loop-set-preserved : goal.loop-set-preserved
loop-set-preserved c = record {
  text = grind (arith, common_steps);
  small = λ k d below. elim (cases_lt k c.loop-set.set-index) [
    | inl less ↦ c.loop-set.invariant.small k d less
    | inr more ↦
        let here : k ≡ c.loop-set.set-index = omega (arith, below, more) in
        let within : c.loop-set.set-index < length c.args.sets.now = omega arith in
        let same : get_or c.args.sets.now k d ≡ c.set-item.result =
        ap (λ n. get_or c.args.sets.now n d) here ∙ get_or_default c.args.sets.now c.loop-set.set-index d c.set-item.result within ∙ sym c.set-item.is in
        subst (λ xs. All (λ x. x < 2 ^ 32) xs) (c.deref.ensures.value ∙ sym (ap (λ (v : Vec ℕ Global). v.items) same)) c.put_set.ensures.small
  ];
}

pub returns-clause-small : goal.returns-clause-small
returns-clause-small c = λ k d within. c.loop-set.invariant.small k d (omega arith)
