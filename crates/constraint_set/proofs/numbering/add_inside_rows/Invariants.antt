use Rattle.constraint_set.specs.Numbers.{inside_row}
use Rattle.constraint_set.proofs.Rows.{RowsSoFar}
use Rattle.constraint_set.proofs.numbering.add_inside_rows.Given as goal

-- the rows of the concepts so far are there
abbrev pub invariant-loop-concept : goal.invariant-loop-concept
invariant-loop-concept l = RowsSoFar (inside_row l.ends) l.initial.numbered.items l.concept l.starts.items l.numbered.items
