use Rattle.std.proofs.Common.{◌≡◌, ◌==◌}
use Rattle.std.specs.Prelude.{filter}
use Rattle.std.specs.List.{list_any, range_with_len}
use Rattle.merge_print.proofs.merge.heads.Given as goal

abbrev pub invariant-loop-leader : goal.invariant-loop-leader
invariant-loop-leader l = l.heads.items ≡ filter (λ x. list_any (λ k. k == x) l.leaders) (range_with_len 0 l.leader)
