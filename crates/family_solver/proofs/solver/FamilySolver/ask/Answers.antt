use Rattle.std.proofs.Common.{sym, subst}
use Rattle.std.specs.Prelude.{IfNone}
use Rattle.learn_solver.specs.Solving.{AreConsistent}
use Rattle.watch_arena.specs.Trails.{AreInRange}
use Rattle.family_solver.specs.Showing.{IsHopeless, variable_count}
use Rattle.family_solver.proofs.Asking.{assumed_consistent, assumed_range, refused}
use Rattle.family_solver.proofs.solver.FamilySolver.ask.Goals as goal

pub solve-requires-clause-range : goal.solve-requires-clause-range
solve-requires-clause-range c =
    subst (λ ls. AreInRange ls (variable_count c.args.ground.now)) (sym c.deref.ensures.value)
    (assumed_range c.args.problem.now c.args.ground.now c.args.place c.args.rel c.in_ok-lits.lits.items c.in_ok-lits.ensures c.requires.place)

pub solve-requires-clause-consistent : goal.solve-requires-clause-consistent
solve-requires-clause-consistent c =
    subst AreConsistent (sym c.deref.ensures.value) (assumed_consistent c.args.problem.now c.args.ground.now c.args.place c.args.rel c.in_ok-lits.lits.items c.in_ok-lits.ensures)

pub returns-in_default-clause-answer : goal.returns-in_default-clause-answer
returns-in_default-clause-answer c =
    let p = c.args.problem.now in
    let g = c.args.ground.now in
    let hopeless = subst (λ o. IfNone o (IsHopeless p g c.deref.result.now)) c.in_default.is c.in_ok-found.ensures.none in
    refused c.pairs_stand_once.ensures p g c.requires.ground c.args.place c.args.rel c.in_ok-lits.lits.items c.in_ok-lits.ensures c.requires.place (subst (IsHopeless p g) c.deref.ensures.value hopeless)
