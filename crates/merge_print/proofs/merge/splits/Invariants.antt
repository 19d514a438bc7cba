use Rattle.std.proofs.Common.{◌≡◌, take}
use Rattle.std.specs.Prelude.{filter}
use Rattle.world_model.specs.Problem.{cross_pairs}
use Rattle.merge_print.specs.Merged.{do_overlap}
use Rattle.merge_print.proofs.merge.splits.Given as goal

abbrev pub invariant-loop-pair : goal.invariant-loop-pair
invariant-loop-pair l = l.list.items ≡ filter (do_overlap l.problem l.table) (take l.pair (cross_pairs l.problem))
