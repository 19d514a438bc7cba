use Rattle.std.proofs.Common.{◌∙◌, sym}
use Rattle.cleantax_text.specs.Kept.{meant}
use Rattle.cleantax_text.proofs.RepeatLemmas.{numbers_stop, numbers_take}
use Rattle.cleantax_text.proofs.reader.Reader.concept_numbers.Goals as goal

pub returns-in_default : goal.returns-in_default
returns-in_default c =
    sym (c.loop-reference.invariant
    ∙ numbers_stop (meant c.args.self.now) c.loop-reference.numbers.items c.args.references.now c.loop-reference.reference-index _ c.loop-reference-test.true (sym c.in_default.ensures.number))

pub loop-reference-preserved : goal.loop-reference-preserved
loop-reference-preserved c =
    c.loop-reference.invariant
    ∙ numbers_take (meant c.args.self.now) c.loop-reference.numbers.items c.push.new.self.items c.args.references.now c.loop-reference.reference-index _ c.in-Some.number c.loop-reference-test.true
    (sym c.in-Some.ensures.number) c.in_ok-push.ensures.items
