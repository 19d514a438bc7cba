use Rattle.family_solver.specs.Showing.{IsGround}
use Rattle.family_solver.proofs.kept.ground.few_points.Given as goal

abbrev pub invariant-loop-index : goal.invariant-loop-index
invariant-loop-index l = IsGround l.base l.ground
