use Rattle.std.proofs.Common.{◌≡◌, take}
use Rattle.conflict_min.specs.Conflicts.{places_from}
use Rattle.conflict_min.proofs.shown.places_of.Given as goal

-- the places so far
abbrev pub invariant-loop-place : goal.invariant-loop-place
invariant-loop-place l = l.places.items ≡ places_from 0 (take l.place l.kept)
