use Rattle.std.proofs.Common.{ℕ, ◌<◌, get_or}
use Rattle.std.specs.Prelude.{Contains}
use Rattle.lits_core.specs.Literals.{negation_of}
use Rattle.point_encode.specs.Model.Forced.{asked_of, need_at}
use Rattle.point_query.proofs.closes.closes.Given as goal

abbrev pub invariant-loop-place : goal.invariant-loop-place
invariant-loop-place l = record {
  each : (k : ℕ) → k < l.place → Contains (asked_of l.cursor.problem l.cursor.path (need_at l.cursor.problem l.number)) (negation_of (get_or l.lits k 0));
}
