use Rattle.std.proofs.Common.{ℕ, ◌<◌, [], get_or}
use Rattle.std.specs.Prelude.{Contains}
use Rattle.lits_core.specs.Literals.{negation_of}
use Rattle.point_encode.specs.Model.Forced.{asked_of}
use Rattle.point_encode.specs.Needs.{need_seen}
use Rattle.dead_pairs.specs.Lone.{lone_problem}
use Rattle.dead_pairs.proofs.closes.closes.Given as goal

abbrev pub invariant-loop-place : goal.invariant-loop-place
invariant-loop-place l = record {
  each : (k : ℕ) → k < l.place → Contains (asked_of (lone_problem l.problem l.lone) [] (need_seen l.problem l.need)) (negation_of (get_or l.lits k 0));
}
