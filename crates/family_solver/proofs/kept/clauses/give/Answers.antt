use Rattle.family_solver.proofs.kept.Telling.{kept_more}
use Rattle.family_solver.proofs.kept.clauses.give.Goals as goal

pub returns : goal.returns
returns c = kept_more c.law_literals_are_sets.ensures c.args.problem.now c.args.ground.now c.args.solver.now c.add.new.self c.args.lits.now c.requires.begun c.in_ok-add.ensures.ok c.requires.so
