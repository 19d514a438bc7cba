use Rattle.std.proofs.Common.{◌≡◌, ◌≢◌, ◌<◌, ℕ, true, false, get_or, None}
use Rattle.watch_arena.specs.Places.{place_of}
use Rattle.learn_solver.proofs.order.unassigned.Given as goal

abbrev pub invariant-loop-at : goal.invariant-loop-at
invariant-loop-at l = (v : ℕ) → v < l.at → get_or l.noted v false ≡ true → place_of l.trail.places v ≢ None
