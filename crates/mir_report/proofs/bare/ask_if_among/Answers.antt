use Rattle.std.proofs.Common.{◌∙◌, true≢false, refl, sym, subst, IsTrue}
use Rattle.rcc5_core.specs.RelationSet.{has}
use Rattle.mir_report.proofs.bare.ask_if_among.Goals as goal

pub returns-then-not-has-clause-answer : goal.returns-then-not-has-clause-answer
returns-then-not-has-clause-answer c = (λ h. absurd (true≢false (sym h)), λ r. absurd (true≢false (sym (c.requires.among c.args.rel r) ∙ sym c.has.ensures ∙ c.if-not-has.true)))

pub returns-then-has-clause-answer : goal.returns-then-has-clause-answer
returns-then-has-clause-answer c = (
  λ _. c.requires.seen.each c.args.pair c.index.result.now c.requires.cross c.args.rel (subst (λ set. IsTrue (has set c.args.rel)) c.index.ensures (sym c.has-2.ensures ∙ c.if-has.true)),
  λ _. refl,
)
