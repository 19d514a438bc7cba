use Rattle.std.proofs.Common.{◌+◌, ◌*◌}
use Rattle.world_model.specs.Alive.{bit_of, point_at}
use Rattle.point_table.proofs.places.Clearing.{clear_bits}
use Rattle.point_table.proofs.places.places.Places.clear_word.Goals as goal

pub returns : goal.returns
returns c = λ j small there.
    let bits = point_at c.args.self.now.points (64 * c.args.at + j) in
    clear_bits c.args.regions (bit_of bits c.args.pair.0) (bit_of bits c.args.pair.1) c.out_of_cell.result c.out_of_cell-2.result c.out_of_cell-3.result j
    (c.out_of_cell.ensures j small there) (c.out_of_cell-2.ensures j small there) (c.out_of_cell-3.ensures j small there)
