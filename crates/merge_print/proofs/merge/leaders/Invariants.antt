use Rattle.std.proofs.Common.{◌≡◌, map}
use Rattle.std.specs.List.{range_with_len}
use Rattle.merge_print.specs.Merged.{leader_of}
use Rattle.merge_print.proofs.merge.leaders.Given as goal

abbrev pub invariant-loop-concept : goal.invariant-loop-concept
invariant-loop-concept l = l.leaders.items ≡ map (leader_of l.problem l.table) (range_with_len 0 l.concept)
