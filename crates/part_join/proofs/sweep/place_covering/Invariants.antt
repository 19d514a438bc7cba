use Rattle.std.proofs.Common.{◌≡◌, false, take}
use Rattle.std.specs.List.{list_any}
use Rattle.part_join.specs.Parts.{covers}
use Rattle.part_join.proofs.sweep.place_covering.Given as goal

abbrev pub invariant-loop-place : goal.invariant-loop-place
invariant-loop-place l = list_any (covers l.reach) (take l.place l.parts) ≡ false
