use Rattle.std.proofs.Common.{arith}
use Rattle.point_table.proofs.places.Telling.{told_kept}
use Rattle.point_table.proofs.places.places.Places.add.Goals as goal

pub invariant_of-self-in_err-fit : goal.invariant_of-self-in_err-fit
invariant_of-self-in_err-fit c =
    let s = c.self.inside in
    told_kept s.points.items s.with.items c.tell.new.rows.items s.live c.fit.new.self c.len-place.result c.self.invariant (omega (arith, c.len-place.ensures, s.points.ok)) c.tell.ensures.others c.tell.ensures.len
    c.fit.ensures.same c.fit.ensures.longer
