use Rattle.std.proofs.Common.{◌≡◌, ◌≤◌, ◌+◌, length, drop}
use Rattle.conflict_min.specs.Conflicts.{places_from}
use Rattle.claims_run.proofs.kept_lines.count_kept.Given as goal

-- those that are counted, and the true flags left, are all true ones
abbrev pub invariant-loop-place : goal.invariant-loop-place
invariant-loop-place l = record {
  few : l.count ≤ l.place;
  counted : l.count + length (places_from 0 (drop l.place l.kept)) ≡ length (places_from 0 l.kept);
}
