use Rattle.point_encode.proofs.Encoding.{apart_added}
use Rattle.point_encode.proofs.encode.add_apart_all.Goals as goal

pub loop-place-preserved : goal.loop-place-preserved
loop-place-preserved c =
    apart_added c.args.concepts.now c.loop-place.clauses.items c.add_apart_from.new.clauses.items _ c.loop-place.place c.loop-place-test.true c.in_ok-add_apart_from.ensures c.loop-place.invariant
