use Rattle.std.proofs.Common.{◌≡◌, true, take}
use Rattle.learn_solver.proofs.alike.are_alike.Given as goal

abbrev pub invariant-loop-place : goal.invariant-loop-place
invariant-loop-place l = record { same : l.alike ≡ true → take l.place l.one ≡ take l.place l.other }
