use Rattle.std.proofs.Common.{◌≡◌, ◌++◌, map, take}
use Rattle.point_encode.specs.Model.Clauses.{apart_clause}
use Rattle.point_encode.proofs.encode.add_apart_from.Given as goal

-- the clauses of the first others were added
abbrev pub invariant-loop-other : goal.invariant-loop-other
invariant-loop-other l = l.clauses.items ≡ l.initial.clauses.items ++ map apart_clause (map (λ other. (l.concept, other)) (take l.other-index l.others))
