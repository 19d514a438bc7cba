use Rattle.watch_arena.specs.Columns.{Caps}
use Rattle.watch_arena.proofs.column.Column.cap.Given as goal

abbrev pub invariant-loop-at : goal.invariant-loop-at
invariant-loop-at l = Caps l.initial.self l.self l.from l.at l.limit
