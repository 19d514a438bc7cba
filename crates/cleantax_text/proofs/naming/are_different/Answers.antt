use Rattle.cleantax_text.proofs.RepeatLemmas.{different_found, different_more, was_known, was_new}
use Rattle.cleantax_text.proofs.naming.are_different.Goals as goal

pub returns-then-not-branch : goal.returns-then-not-branch
returns-then-not-branch c =
    different_found c.loop-number.seen.keys c.args.numbers.now c.loop-number.number-index c.loop-number.invariant.keys c.loop-number-test.true
    (was_known _ _ c.in_ok-insert.ensures.added c.if-not-branch.true)

pub loop-number-preserved : goal.loop-number-preserved
loop-number-preserved c =
    different_more c.loop-number.seen.keys c.insert.new.self.keys c.args.numbers.now c.loop-number.number-index c.loop-number.invariant.keys c.loop-number.invariant.once c.loop-number-test.true
    (was_new _ _ c.in_ok-insert.ensures.added c.if-not-branch.false) c.in_ok-insert.ensures.keys
