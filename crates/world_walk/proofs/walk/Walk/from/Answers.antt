use Rattle.world_walk.proofs.WalkLemmas.{table_before}
use Rattle.world_walk.proofs.walk.Walk.from.Goals as goal

pub returns-clause-before : goal.returns-clause-before
returns-clause-before c = table_before c.args.problem.now c.args.from.now c.in_ok-tables.tables c.in_ok-tables.ensures
