use Rattle.std.proofs.Common.{◌≡◌, ◌++◌, map, take}
use Rattle.point_encode.specs.Model.Clauses.{is_so}
use Rattle.point_encode.proofs.encode.add_with_any.Given as goal

-- the first concepts were added
abbrev pub invariant-loop-concept : goal.invariant-loop-concept
invariant-loop-concept l = l.all.items ≡ l.initial.all.items ++ map is_so (take l.concept-index l.concepts)
