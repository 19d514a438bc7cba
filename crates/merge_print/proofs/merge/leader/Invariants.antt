use Rattle.std.proofs.Common.{◌≡◌, ℕ, ◌<◌, false}
use Rattle.merge_print.specs.Merged.{are_equal}
use Rattle.merge_print.proofs.merge.leader.Given as goal

-- no concept so far equals it
abbrev pub invariant-loop-earlier : goal.invariant-loop-earlier
invariant-loop-earlier l = (k : ℕ) → k < l.earlier → are_equal l.problem l.table k l.concept ≡ false
