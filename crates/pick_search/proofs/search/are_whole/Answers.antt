use Rattle.std.proofs.Common.{◌∙◌, sym, ap, arith}
use Rattle.rcc5_core.specs.Region.{is_whole_set}
use Rattle.pick_search.proofs.Deciding.{whole_more, whole_from}
use Rattle.pick_search.proofs.search.are_whole.Goals as goal

pub loop-pair-preserved : goal.loop-pair-preserved
loop-pair-preserved c = whole_more c.args.problem.now c.loop-pair.pair c.loop-pair.invariant (ap is_whole_set (sym c.allowed.ensures) ∙ sym c.is_whole.ensures ∙ c.if-not-is_whole.false)

pub returns : goal.returns
returns c = whole_from c.args.problem.now (λ k within. c.loop-pair.invariant k (omega (arith, within)))
