use Rattle.std.proofs.Common.{◌≡◌, map}
use Rattle.std.specs.List.{range_with_len}
use Rattle.world_model.specs.Alive.{places_with}
use Rattle.set_family.proofs.Family.from_points.Given as goal

-- the sets of the concepts so far
abbrev pub invariant-loop-concept : goal.invariant-loop-concept
invariant-loop-concept l = map (λ v. v.items) l.sets.items ≡ map (λ c. places_with c 0 l.points) (range_with_len 0 l.concept)
