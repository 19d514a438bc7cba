use Rattle.std.proofs.Common.{◌≡◌, ◌<◌, ℕ}
use Rattle.world_model.specs.Family.{set_of}
use Rattle.cert_check.proofs.known.is_same.Given as goal

-- the sets so far are the same
abbrev pub invariant-loop-place : goal.invariant-loop-place
invariant-loop-place l = (k : ℕ) → k < l.place → set_of l.known k ≡ set_of l.family k
