use Rattle.std.proofs.Common.{◌≡◌, drop}
use Rattle.set_family.specs.Rules.{are_apart}
use Rattle.set_family.proofs.Family.are_apart.Given as goal

-- the answer for what is left is that for all
abbrev pub invariant-loop-place : goal.invariant-loop-place
invariant-loop-place l = are_apart l.self (drop l.place l.children) ≡ are_apart l.self l.children
