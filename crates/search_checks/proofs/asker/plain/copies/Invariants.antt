use Rattle.std.proofs.Common.{◌≡◌, take}
use Rattle.search_checks.specs.Asker.Seeking.{chosen}
use Rattle.search_checks.proofs.asker.plain.copies.Given as goal

abbrev pub invariant-loop-place : goal.invariant-loop-place
invariant-loop-place l = l.list.items ≡ chosen l.points (take l.place-index l.places)
