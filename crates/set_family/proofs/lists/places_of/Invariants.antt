use Rattle.std.proofs.Common.{◌≡◌, ◌++◌, drop}
use Rattle.world_model.specs.Alive.{places_with}
use Rattle.set_family.proofs.lists.places_of.Given as goal

-- the places so far and those that are left are all of them
abbrev pub invariant-loop-place : goal.invariant-loop-place
invariant-loop-place l = l.places.items ++ places_with l.concept l.place (drop l.place l.points) ≡ places_with l.concept 0 l.points
