use Rattle.std.proofs.Common.{◌&&◌}
use Rattle.bit_rows.specs.Rows.{has_bit, in_cells}
use Rattle.point_frames.proofs.Needs.{owing_pushed}
use Rattle.point_frames.proofs.builder.Builder.add_need.Goals as goal

pub returns : goal.returns
returns c =
    record {
      owing = owing_pushed c.args.self.now.rows c.push.new.self c.reduce_last.new.rows (λ k. has_bit c.args.one.now k && has_bit c.args.other.now k && in_cells c.args.cells (has_bit c.args.sides.now.left.now k) (has_bit c.args.sides.now.right.now k))
          c.requires.laid.1 c.in_ok-push.ensures c.reduce_last.ensures;
    }
