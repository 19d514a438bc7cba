use Rattle.std.proofs.Common.{◌≡◌, ◌++◌, ◌∷◌, [], length}
use Rattle.std.specs.Prelude.{flat_map, ◌==◌, if◌then◌else◌}
use Rattle.std.specs.List.{range_with_len}
use Rattle.world_model.specs.Problem.{children_of}
use Rattle.point_encode.specs.Model.Clauses.{covered_clause}
use Rattle.point_encode.proofs.encode.add_covered.Given as goal

-- the clauses of the first concepts were added
abbrev pub invariant-loop-concept : goal.invariant-loop-concept
invariant-loop-concept l =
    l.clauses.items ≡ l.initial.clauses.items ++
    flat_map (λ c. if length (children_of l.problem c) == 0 then [] else covered_clause c (children_of l.problem c) ∷ []) (range_with_len 0 l.concept)
