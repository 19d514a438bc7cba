use Rattle.std.proofs.Common.{◌≡◌, ◌+◌, ◌/◌, length}
use Rattle.point_table.specs.Table.{AreShown}
use Rattle.point_table.proofs.table.rows_of.Given as goal

abbrev pub invariant-loop-concept : goal.invariant-loop-concept
invariant-loop-concept l = record {
  count : l.rows.count ≡ l.concept;
  width : l.rows.width ≡ length l.points / 64 + 1;
  bits : AreShown l.points l.rows;
}
