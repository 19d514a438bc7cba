use Rattle.std.proofs.Common.{◌≡◌, get_or, arith, sym}
use Rattle.std.proofs.lemmas.Option.{get_or_from_slice_get}
use Rattle.constraint_set.proofs.Saying.{more_articulations}
use Rattle.constraint_set.proofs.statements.Sets.of_articulations.Goals as goal

pub loop-index-preserved : goal.loop-index-preserved
loop-index-preserved c =
    let stated = c.args.shape.now.articulations in
    let a = c.articulation.result.now in
    let is : a ≡ get_or stated c.loop-index.index a = sym (get_or_from_slice_get stated c.loop-index.index a a c.articulation.ensures.value) in
    more_articulations c.args.shape.now c.args.kept.now stated c.loop-index.index c.loop-index.sets c.say_if_kept.new.self a (omega (arith, c.articulation_count-index-end.ensures.count)) c.requires is
    c.loop-index.invariant c.in_ok-say_if_kept.ensures
