use Rattle.std.proofs.Common.{◌≡◌, ◌<◌, ℕ}
use Rattle.std.specs.Prelude.{slice_get}
use Rattle.world_model.specs.Family.{table_of}
use Rattle.set_family.proofs.Family.has_table.Given as goal

-- the relations so far are those of the table
abbrev pub invariant-loop-pair : goal.invariant-loop-pair
invariant-loop-pair l = (k : ℕ) → k < l.pair → slice_get (table_of l.problem l.self) k ≡ slice_get l.table k
