use Rattle.std.proofs.Common.{◌≡◌, drop}
use Rattle.std.specs.List.{list_all, items_where_true}
use Rattle.world_model.specs.Problem.{kept_articulations}
use Rattle.set_family.specs.Rules.{articulation_holds}
use Rattle.set_family.proofs.Family.articulations_hold.Given as goal

-- the answer for the articulations that are left is that for all
abbrev pub invariant-loop-index : goal.invariant-loop-index
invariant-loop-index l = list_all (articulation_holds l.self) (items_where_true (drop l.index l.problem.kept) (drop l.index l.problem.articulations)) ≡ list_all (articulation_holds l.self) (kept_articulations l.problem)
