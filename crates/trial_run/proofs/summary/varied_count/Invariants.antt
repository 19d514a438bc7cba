use Rattle.std.proofs.Common.{◌≡◌, ◌≤◌}
use Rattle.std.specs.Prelude.{count_by}
use Rattle.std.specs.List.{range_with_len}
use Rattle.trial_run.specs.Trials.{is_varied}
use Rattle.trial_run.proofs.summary.varied_count.Given as goal

abbrev pub invariant-loop-place : goal.invariant-loop-place
invariant-loop-place l = record {
  counted : l.count ≡ count_by (is_varied l.worlds) (range_with_len 0 l.place);
  few : l.count ≤ l.place;
}
