use Rattle.std.proofs.Common.{◌≡◌, ◌<◌, ℕ, [], get_or, true}
use Rattle.conflict_lattice.proofs.Inserting.{comes}
use Rattle.conflict_lattice.proofs.insert.place_for.Given as goal

-- those before come before the item
abbrev pub invariant-loop-place : goal.invariant-loop-place
invariant-loop-place l = (k : ℕ) → k < l.place → comes (get_or l.list k []) l.item ≡ true
