use Rattle.std.proofs.Common.{◌+◌, ◌*◌, sym}
use Rattle.world_model.specs.Alive.{avoids_by, point_at}
use Rattle.point_table.specs.Places.Places.{are_as, is_as}
use Rattle.point_table.proofs.places.Clearing.{out_all, out_some}
use Rattle.point_table.proofs.places.places.Places.out_of_cell.Goals as goal

pub returns-then-avoids_by : goal.returns-then-avoids_by
returns-then-avoids_by c = λ j small there.
    out_all (are_as c.args.self.now.points c.args.one c.args.other (64 * c.args.at + j)) (avoids_by c.args.regions c.args.one.1 c.args.other.1) j (sym c.if-avoids_by.ensures) small

pub returns : goal.returns
returns c = λ j small there.
    let bits = point_at c.args.self.now.points (64 * c.args.at + j) in
    out_some (is_as bits c.args.one) (is_as bits c.args.other) (avoids_by c.args.regions c.args.one.1 c.args.other.1) c.side_word.result c.side_word-2.result j
    (sym c.if-avoids_by.ensures) (c.side_word.ensures j small there) (c.side_word-2.ensures j small there) c.side_word.type_inv small
