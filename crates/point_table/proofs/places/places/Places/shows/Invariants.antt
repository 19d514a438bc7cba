use Rattle.std.proofs.Common.{◌*◌}
use Rattle.bit_rows.proofs.WordBits.{NoneBelow}
use Rattle.point_table.specs.Places.Places.{shows_at}
use Rattle.point_table.proofs.places.places.Places.shows.Given as goal

abbrev pub invariant-loop-at : goal.invariant-loop-at
invariant-loop-at l = NoneBelow (shows_at l.self l.one l.other) (64 * l.at)
