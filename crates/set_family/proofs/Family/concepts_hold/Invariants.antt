use Rattle.std.proofs.Common.{◌≡◌, ◌-◌}
use Rattle.std.specs.List.{list_all, range_with_len}
use Rattle.world_model.specs.Problem.{concepts, concept_count}
use Rattle.set_family.specs.Rules.{rules_at}
use Rattle.set_family.proofs.Family.concepts_hold.Given as goal

-- the answer for the concepts that are left is that for all
abbrev pub invariant-loop-concept : goal.invariant-loop-concept
invariant-loop-concept l = list_all (rules_at l.problem l.self) (range_with_len l.concept (concept_count l.problem - l.concept)) ≡ list_all (rules_at l.problem l.self) (concepts l.problem)
