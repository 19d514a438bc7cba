use Rattle.std.proofs.Common.{◌≡◌, ℕ, ◌+◌, ◌*◌, ◌<◌, true}
use Rattle.std.specs.Prelude.{Contains}
use Rattle.bit_rows.specs.Rows.{word_bit}
use Rattle.point_table.proofs.places.places.push_places.Given as goal

abbrev pub invariant-loop-j : goal.invariant-loop-j
invariant-loop-j l = record {
  there : (k : ℕ) → k < l.j → word_bit l.word k ≡ true → Contains l.list.items (64 * l.at + k);
  stay : (place : ℕ) → Contains l.fn.list.items place → Contains l.list.items place;
}
