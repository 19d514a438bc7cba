use Rattle.std.proofs.Common.{◌≡◌, ◌++◌, map, filter, take, drop}
use Rattle.point_query.specs.Remembered.{is_live}
use Rattle.point_query.proofs.closings.Closings.keep_live.Given as goal

-- the lists before this one are filtered, and the others are as they were
abbrev pub invariant-loop-ids : goal.invariant-loop-ids
invariant-loop-ids l = l.ids-items ≡ map (filter (is_live l.solver.state)) (take l.ids-index l.initial.ids-items) ++ drop l.ids-index l.initial.ids-items
