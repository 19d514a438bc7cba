use Rattle.std.proofs.Common.{◌≡◌, ◌≤◌, drop}
use Rattle.world_model.specs.Trial.{first_spent}
use Rattle.plain_walk.proofs.walk.first_spent.Given as goal

-- what is left of the nodes has the same first one
abbrev pub invariant-loop-passed : goal.invariant-loop-passed
invariant-loop-passed l = record {
  counted : l.worlds ≤ l.passed;
  same : first_spent l.problem l.limits.0 l.limits.1 l.passed l.worlds (drop l.passed l.nodes) ≡ first_spent l.problem l.limits.0 l.limits.1 0 0 l.nodes;
}
