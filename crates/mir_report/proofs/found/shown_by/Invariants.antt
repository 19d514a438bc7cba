use Rattle.std.proofs.Common.{All}
use Rattle.std.specs.Slice.Iter.{iter_rest}
use Rattle.std.specs.Iterator.Adapters.{rev_source}
use Rattle.set_family.specs.Meeting.{IsMetBy}
use Rattle.mir_report.proofs.found.shown_by.Given as goal

-- all that are still to come meet the problem
abbrev pub invariant-loop-family : goal.invariant-loop-family
invariant-loop-family l = All (IsMetBy l.problem) (iter_rest (rev_source l.family-iterator))
