use Rattle.std.proofs.Common.{◌∙◌, ap, ◌+◌}
use Rattle.bit_rows.proofs.RowBits.{empty_more}
use Rattle.point_table.proofs.build.empty_rows.Goals as goal

pub loop-row-preserved : goal.loop-row-preserved
loop-row-preserved c = record {
  count = c.in_ok-push_empty.ensures.count ∙ ap (λ n. n + 1) c.loop-row.invariant.count;
  width = c.in_ok-push_empty.ensures.width ∙ c.loop-row.invariant.width;
  empty = empty_more c.loop-row.rows c.push_empty.new.self c.loop-row.invariant.empty c.in_ok-push_empty.ensures;
}
