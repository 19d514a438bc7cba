use Rattle.std.proofs.Common.{◌≡◌, ◌++◌, take, drop}
use Rattle.clause_arena.specs.Movings.{new_ref}
use Rattle.watch_arena.specs.Places.{places_with}
use Rattle.watch_arena.proofs.places.rename.Given as goal

abbrev pub invariant-loop-at : goal.invariant-loop-at
invariant-loop-at l = l.places ≡ places_with (new_ref l.moves.pairs) (take l.at l.initial.places) ++ drop l.at l.initial.places
