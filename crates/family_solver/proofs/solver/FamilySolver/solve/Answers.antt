use Rattle.std.proofs.Common.{subst}
use Rattle.learn_solver.specs.Answers.{IsAnswer}
use Rattle.family_solver.proofs.Asking.{refuted, solver_stays}
use Rattle.family_solver.proofs.solver.FamilySolver.solve.Goals as goal

pub returns-in_err-_id-clause-solver : goal.returns-in_err-_id-clause-solver
returns-in_err-_id-clause-solver c =
    solver_stays c.law_derived_clauses_follow.ensures c.law_literals_are_sets.ensures c.args.problem.now c.args.ground.now c.args.self.now c.clear_lines.new.self c.solve.new.self c.clear_lines.ensures c.solve.ensures.kept c.requires.solver

pub returns-in-Refuted-clause-solver : goal.returns-in-Refuted-clause-solver
returns-in-Refuted-clause-solver c =
    solver_stays c.law_derived_clauses_follow.ensures c.law_literals_are_sets.ensures c.args.problem.now c.args.ground.now c.args.self.now c.clear_lines.new.self c.solve.new.self c.clear_lines.ensures c.solve.ensures.kept c.requires.solver

pub returns-in-Bits-clause-solver : goal.returns-in-Bits-clause-solver
returns-in-Bits-clause-solver c =
    solver_stays c.law_derived_clauses_follow.ensures c.law_literals_are_sets.ensures c.args.problem.now c.args.ground.now c.args.self.now c.clear_lines.new.self c.solve.new.self c.clear_lines.ensures c.solve.ensures.kept c.requires.solver

pub returns-in-Refuted-clause-none : goal.returns-in-Refuted-clause-none
returns-in-Refuted-clause-none c =
    let stays = solver_stays c.law_derived_clauses_follow.ensures c.law_literals_are_sets.ensures c.args.problem.now c.args.ground.now c.args.self.now c.clear_lines.new.self c.solve.new.self c.clear_lines.ensures c.solve.ensures.kept c.requires.solver in
    refuted c.args.problem.now c.args.ground.now c.solve.new.self c.args.lits.now c.in-Refuted._id stays
    (subst (IsAnswer c.solve.new.self c.args.lits.now) c.in-Refuted.is c.in_ok-_id.ensures.answer)
