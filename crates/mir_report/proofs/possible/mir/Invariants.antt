use Rattle.std.proofs.Common.{◌≡◌, ℕ, length, slice_get, Some, All, Ok}
use Rattle.rcc5_core.specs.declared.RelSet.{RelSet}
use Rattle.search_log.specs.Leading.{KeepsLeading}
use Rattle.search_log.specs.Logging.{LogGoes}
use Rattle.set_family.specs.Meeting.{IsMetBy}
use Rattle.pick_search.specs.Blocks.Blocks.{KeepsClaims}
use Rattle.mir_report.specs.Possible.{IsPossibleSet, claims_from}
use Rattle.mir_report.proofs.possible.mir.Given as goal

-- the sets of the pairs so far, and their claims
abbrev pub invariant-pairs : goal.invariant-pairs
invariant-pairs g l = record {
  shape : l.asker.shape ≡ l.fn.asker.shape;
  families : All (IsMetBy l.problem) l.families.items;
  count : length l.sets.items ≡ l.pair;
  each : (pair : ℕ) (set : RelSet) → slice_get l.sets.items pair ≡ Some set → IsPossibleSet l.problem pair set;
  keeps : KeepsClaims l.problem (Ok (tt {0})) (λ _ more. more ≡ claims_from l.problem 0 l.sets.items) (g.L.TreeLog.lines l.fn.log) (g.L.TreeLog.lines l.log) l.fn.asker l.asker;
  leads : KeepsLeading (g.L.TreeLog.lines l.fn.log) (g.L.TreeLog.lines l.log) l.fn.asker l.asker;
  log : LogGoes g.L.TreeLog.drops g.L.TreeLog.lines g.L.TreeLog.faults g.L.TreeLog.steady g.L.TreeLog.quiet (Ok (tt {0})) l.fn.log l.log;
}
