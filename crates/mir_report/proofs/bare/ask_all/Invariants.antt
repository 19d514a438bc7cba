use Rattle.std.proofs.Common.{◌≡◌, ℕ, length, slice_get, Some}
use Rattle.world_model.specs.Problem.{cross_pairs}
use Rattle.rcc5_core.specs.declared.RelSet.{RelSet}
use Rattle.mir_report.specs.Steps.{AreSeen, IsHelp}
use Rattle.mir_report.specs.Possible.{IsPossibleSet}
use Rattle.mir_report.proofs.bare.ask_all.Given as goal

-- the sets of the pairs so far
abbrev pub invariant-pairs : goal.invariant-pairs
invariant-pairs l = record {
  shape : l.asker.shape ≡ l.fn.asker.shape;
  help : IsHelp l.problem l.help;
  seen : AreSeen l.problem (length (cross_pairs l.problem)) l.seen.items;
  count : length l.sets.items ≡ l.pair;
  each : (pair : ℕ) (set : RelSet) → slice_get l.sets.items pair ≡ Some set → IsPossibleSet l.problem pair set;
}
