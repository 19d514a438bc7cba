use Rattle.std.proofs.Common.{◌≡◌, ◌++◌}
use Rattle.constraint_set.specs.Numbers.{row}
use Rattle.constraint_set.proofs.numbering.add_row.Given as goal

abbrev pub invariant-loop-other : goal.invariant-loop-other
invariant-loop-other l = l.numbered.items ≡ l.initial.numbered.items ++ row l.concept l.from l.other
