use Rattle.std.proofs.Common.{◌≡◌, get_or, subst, ◌∙◌, below_more, arith}
use Rattle.std.specs.Prelude.{Contains}
use Rattle.std.proofs.lemmas.List.{get_or_default}
use Rattle.point_pool.proofs.waiting.push_each.Goals as goal

pub loop-number-preserved : goal.loop-number-preserved
loop-number-preserved c = record {
  there = below_more (λ k. Contains c.push.new.self (get_or c.args.numbers.now k 0)) _
      (λ k small. c.in_ok-push.ensures.stay (get_or c.args.numbers.now k 0) (c.loop-number.invariant.there k small)) c.in_ok-push.ensures.there;
  stay = λ number h. c.in_ok-push.ensures.stay number (c.loop-number.invariant.stay number h);
}

pub returns-clause-there : goal.returns-clause-there
returns-clause-there c = λ number h.
    let xs = c.args.numbers.now in
    let same : get_or xs h.0 0 ≡ number = get_or_default xs h.0 0 number h.1 ∙ h.2 in
    subst (λ n. Contains c.loop-number.waiting n) same (c.loop-number.invariant.there h.0 (omega (arith, h.1, c.loop-number-test.false)))
