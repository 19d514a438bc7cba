use Rattle.std.proofs.Common.{◌≡◌, ◌≤◌, ℕ, length, take}
use Rattle.world_walk.proofs.asked.Asked.back_to.Given as goal

-- the first relations stay, and all but the path
abbrev pub invariant-loop-self : goal.invariant-loop-self
invariant-loop-self l =
    (l.self-inside ≡ record l.initial.self-inside { path = l.self-inside.path }) × (l.len ≤ length l.self-inside.path) × (take l.len l.self-inside.path ≡ take l.len l.initial.self-inside.path)

abbrev pub decreases-loop-self : goal.decreases-loop-self
decreases-loop-self l = length l.self-inside.path
