use Rattle.std.proofs.Common.{◌≡◌, ◌++◌, map, drop}
use Rattle.point_encode.specs.Model.Clauses.{each_two, apart_clause}
use Rattle.point_encode.proofs.encode.add_apart_all.Given as goal

-- what is still to be added completes the clauses
abbrev pub invariant-loop-place : goal.invariant-loop-place
invariant-loop-place l =
    l.clauses.items ++ map apart_clause (each_two (drop l.place l.concepts)) ≡ l.initial.clauses.items ++ map apart_clause (each_two l.concepts)
