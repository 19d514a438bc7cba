use Rattle.std.proofs.Common.{◌≡◌, ◌+◌, ◌<◌, ◌≤◌, ℕ, false}
use Rattle.world_model.specs.Alive.{bit_of, point_at}
use Rattle.bit_rows.specs.Rows.{word_bit}
use Rattle.point_table.proofs.table.word_of.Given as goal

abbrev pub invariant-loop-i : goal.invariant-loop-i
invariant-loop-i l = record {
  done : (j : ℕ) → j < l.i → word_bit l.word j ≡ bit_of (point_at l.points (l.from + j)) l.concept;
  rest : (j : ℕ) → l.i ≤ j → j < 64 → word_bit l.word j ≡ false;
}
