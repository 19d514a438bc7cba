use Rattle.std.proofs.Common.{sym, ap, ◌∙◌, not}
use Rattle.point_table.proofs.PointTests.{apart_of_none}
use Rattle.point_table.proofs.points.is_apart_from.Goals as goal

pub returns-then-not-has : goal.returns-then-not-has
returns-then-not-has c =
    ap not c.if-not-has.true ∙ sym (apart_of_none c.args.bits.now c.args.child c.args.children.now (sym c.bit-has.ensures ∙ c.if-not-has.true))
