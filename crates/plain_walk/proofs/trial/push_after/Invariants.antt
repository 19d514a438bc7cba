use Rattle.std.proofs.Common.{◌≡◌, ◌∷◌, ◌++◌, map, take}
use Rattle.plain_walk.proofs.trial.push_after.Given as goal

abbrev pub invariant-loop-point : goal.invariant-loop-point
invariant-loop-point l = l.list.items ≡ l.initial.list.items ++ map (λ bits. l.first ∷ bits) (take l.point-index l.points)
