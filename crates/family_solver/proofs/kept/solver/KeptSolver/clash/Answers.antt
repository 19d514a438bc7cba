use Rattle.std.proofs.Common.{sym, ◌∙◌}
use Rattle.family_solver.proofs.kept.Denying.{clashes, refutation_denied}
use Rattle.family_solver.proofs.kept.solver.KeptSolver.clash.Goals as goal

pub core_of-requires-clause-denied : goal.core_of-requires-clause-denied
core_of-requires-clause-denied c =
    let s = c.args.self.now in
    refutation_denied s.ground c.args.kept.now s.solver c.args.lits.now c.args.id c.in-Some.clause c.requires.assumed c.requires.refutation (sym c.clause.ensures ∙ c.in-Some.is)

pub returns : goal.returns
returns c =
    let s = c.args.self.now in
    clashes c.args.problem.now s.ground s.solver c.requires.solver.ruled c.facts.ensures.follow c.args.id c.in-Some.clause (sym c.clause.ensures ∙ c.in-Some.is) c.args.kept.now c.in_ok-core.core.items c.requires.flags c.in_ok-core.ensures
