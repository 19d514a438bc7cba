use Rattle.std.proofs.Common.{arith, ap}
use Rattle.std.specs.Prelude.{ℕ}
use Rattle.bit_rows.specs.Rows.{has_bit}
use Rattle.world_model.specs.Node.{pair_at}
use Rattle.point_ladder.proofs.FirstFrame.{side_bits}
use Rattle.point_ladder.proofs.sides.sides_of.Goals as goal

pub returns : goal.returns
returns c =
    let p = c.args.problem.now in
    let rows = c.args.rows.now in
    let both = c.pair_at-left.result in
    let other = pair_at p c.args.pair in
    let value = c.pair_at-left.ensures.value in
    let within = c.pair_at-left.ensures.within in
    let order = c.pair_at-left.ensures.order in
    record {
      left = side_bits p rows (has_bit c.row.result.now) both.0 other.0 c.requires.rows (omega (arith, order, within)) (ap (λ (q : ℕ × ℕ). q.0) value) c.row.ensures.bits;
      right = side_bits p rows (has_bit c.row-2.result.now) both.1 other.1 c.requires.rows within (ap (λ (q : ℕ × ℕ). q.1) value) c.row-2.ensures.bits;
    }
