use Rattle.std.proofs.Common.{◌*◌}
use Rattle.point_table.specs.Places.Places.{meets}
use Rattle.point_table.proofs.places.Meeting.{NoneIn}
use Rattle.point_table.proofs.places.places.Places.next_met.Given as goal

abbrev pub invariant-loop-at : goal.invariant-loop-at
invariant-loop-at l = NoneIn (meets l.self l.one l.other) (64 * l.from) (64 * l.at)
