use Rattle.std.proofs.Common.{◌≡◌, ◌++◌}
use Rattle.std.specs.Prelude.{flat_map}
use Rattle.std.specs.List.{range_with_len}
use Rattle.std.specs.Option.{option_map, option_to_list}
use Rattle.world_model.specs.Problem.{parent_of}
use Rattle.point_encode.specs.Model.Clauses.{within_clause}
use Rattle.point_encode.proofs.encode.add_within.Given as goal

-- the clauses of the first concepts were added
abbrev pub invariant-loop-concept : goal.invariant-loop-concept
invariant-loop-concept l =
    l.clauses.items ≡ l.initial.clauses.items ++ flat_map (λ c. option_to_list (option_map (within_clause c) (parent_of l.problem c))) (range_with_len 0 l.concept)
