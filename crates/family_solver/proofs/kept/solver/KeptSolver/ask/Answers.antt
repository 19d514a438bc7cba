use Rattle.std.proofs.Common.{◌+◌, length, sym, subst}
use Rattle.learn_solver.specs.Solving.{AreConsistent}
use Rattle.watch_arena.specs.Trails.{AreInRange}
use Rattle.family_solver.specs.Showing.{variable_count}
use Rattle.family_solver.proofs.kept.Denying.{assumed_consistent, assumed_range}
use Rattle.family_solver.proofs.kept.solver.KeptSolver.ask.Goals as goal

pub solve-requires-clause-range : goal.solve-requires-clause-range
solve-requires-clause-range c =
    let count = variable_count c.args.self.now.ground in
    let lits = c.in_ok-lits.lits.items in
    subst (λ ls. AreInRange ls (count + length c.args.problem.now.articulations)) (sym c.deref.ensures.value)
    (subst (λ n. AreInRange lits (count + n)) c.requires.flags (assumed_range c.args.self.now.ground c.args.kept.now lits c.in_ok-lits.ensures))

pub solve-requires-clause-consistent : goal.solve-requires-clause-consistent
solve-requires-clause-consistent c =
    subst AreConsistent (sym c.deref.ensures.value) (assumed_consistent c.args.self.now.ground c.args.kept.now c.in_ok-lits.lits.items c.in_ok-lits.ensures)
