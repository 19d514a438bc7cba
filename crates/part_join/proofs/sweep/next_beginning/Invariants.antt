use Rattle.std.proofs.Common.{take}
use Rattle.part_join.specs.Parts.{IsNextBeginning}
use Rattle.part_join.proofs.sweep.next_beginning.Given as goal

abbrev pub invariant-loop-part : goal.invariant-loop-part
invariant-loop-part l = IsNextBeginning (take l.part-index l.parts) l.reach l.least
