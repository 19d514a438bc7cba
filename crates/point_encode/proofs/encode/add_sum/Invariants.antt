use Rattle.std.proofs.Common.{◌≡◌, ◌++◌, ◌∷◌, [], map, take}
use Rattle.point_encode.specs.Model.Clauses.{is_so, is_not}
use Rattle.point_encode.proofs.encode.add_sum.Given as goal

-- the clauses of the first parts were added
abbrev pub invariant-loop-part : goal.invariant-loop-part
invariant-loop-part l =
    l.clauses.items ≡ l.initial.clauses.items ++ map (λ part. is_not l.selector ∷ is_not part ∷ is_so l.whole ∷ []) (take l.part-index l.parts)
