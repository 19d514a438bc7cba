use Rattle.std.proofs.Common.{[], refl, subst}
use Rattle.std.specs.Prelude.{IfNone}
use Rattle.family_solver.specs.Showing.{IsHopeless}
use Rattle.family_solver.proofs.solver.FamilySolver.any.Goals as goal

pub returns-in_default-clause-answer : goal.returns-in_default-clause-answer
returns-in_default-clause-answer c met =
    let hopeless = subst (λ o. IfNone o (IsHopeless c.args.problem.now c.args.ground.now [])) c.in_default.is c.in_ok-found.ensures.none in
    hopeless met.0 [] met.1 refl
