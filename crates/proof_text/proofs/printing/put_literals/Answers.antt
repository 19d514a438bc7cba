use Rattle.std.proofs.Common.{◌∙◌, ◌++◌, ◌∷◌, ℕ, ◌^◌, ◌<◌, get_or, below_more, ap, subst}
use Rattle.std.proofs.lemmas.List.{get_or_default}
use Rattle.proof_text.specs.Lines.{literal_text}
use Rattle.proof_text.proofs.TextLemmas.{word_put}
use Rattle.proof_text.proofs.printing.put_literals.Goals as goal

pub loop-lit-preserved : goal.loop-lit-preserved
loop-lit-preserved c =
    let is = c.lit-item.is ∙ get_or_default c.args.lits.now c.loop-lit.lit-index c.lit-item.result 0 c.loop-lit-test.true in
    record {
      text = word_put literal_text c.args.lits.now c.loop-lit.out.items c.put_literal.new.out.items _ c.loop-lit.lit-index c.loop-lit-test.true c.loop-lit.invariant.text
          (c.in_ok-put_literal.ensures.text ∙ ap (λ (x : ℕ). c.loop-lit.out.items ++ 32 ∷ literal_text x) is);
      small = below_more (λ (k : ℕ). get_or c.args.lits.now k 0 < 2 ^ 32) c.loop-lit.lit-index c.loop-lit.invariant.small
          (subst (λ (x : ℕ). x < 2 ^ 32) is c.put_literal.ensures.small);
    }
