use Rattle.family_solver.specs.Showing.{variable_count}
use Rattle.family_solver.proofs.Ruling.{begun_more, range_more}
use Rattle.family_solver.proofs.clauses.give.Goals as goal

pub add-requires-clause-range : goal.add-requires-clause-range
add-requires-clause-range c = range_more c.args.lits.now (variable_count c.args.ground.now) c.args.solver.now.variables c.requires.begun.variables c.requires.range

pub returns-clause-begun : goal.returns-clause-begun
returns-clause-begun c = begun_more c.law_literals_are_sets.ensures c.args.problem.now c.args.ground.now c.args.solver.now c.add.new.self c.args.lits.now c.requires.begun c.in_ok-add.ensures.ok c.requires.so
