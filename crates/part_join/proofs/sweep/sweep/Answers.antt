use Rattle.std.proofs.Common.{refl, ◌∙◌}
use Rattle.part_join.proofs.SweepLemmas.{swept_begin, swept_on, swept_all}
use Rattle.part_join.proofs.GapLemmas.{gap_is}
use Rattle.part_join.proofs.sweep.sweep.Goals as goal

pub loop-part-init : goal.loop-part-init
loop-part-init c = λ p each. swept_begin p c.args.parts.items c.args.parts.items c.new-reach.result c.new-worlds.result.items refl c.new-reach.ensures c.new-worlds.ensures.items

pub returns-in_default : goal.returns-in_default
returns-in_default c = λ p each.
    gap_is p c.args.parts.items c.loop-part.left.items c.take_covering.new.left.items c.deref.result.now c.loop-part.reach c.loop-part.worlds.items c.gap_from.result
    (c.loop-part.invariant p each) c.in_default.ensures.none c.in_default.ensures.kept c.deref.ensures.value c.gap_from.ensures

pub returns-in-None : goal.returns-in-None
returns-in-None c = λ p each.
    swept_all p c.args.parts.items c.loop-part.left.items c.take_covering.new.left.items c.loop-part.reach c.loop-part.worlds.items c.new.result c.in-Some.part _ c.part.view_is each
    (c.loop-part.invariant p each) c.in-Some.ensures.taken c.in-Some.ensures.covers c.in-None.is (c.new.ensures ∙ c.in_ok-append_from.ensures)

pub loop-part-preserved : goal.loop-part-preserved
loop-part-preserved c = λ p each.
    swept_on p c.args.parts.items c.loop-part.left.items c.take_covering.new.left.items c.loop-part.reach c.in-Some-to.to c.loop-part.worlds.items c.append_from.new.worlds.items c.in-Some.part _ c.part.view_is each
    (c.loop-part.invariant p each) c.in-Some.ensures.taken c.in-Some.ensures.covers c.in-Some-to.is c.in_ok-append_from.ensures
