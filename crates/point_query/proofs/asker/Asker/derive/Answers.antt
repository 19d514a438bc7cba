use Rattle.point_query.proofs.Querying.{solver_stays}
use Rattle.point_query.proofs.asker.Asker.derive.Goals as goal

pub invariant_of-self : goal.invariant_of-self
invariant_of-self c = record { solved = solver_stays c.law_derived_clauses_follow.ensures _ _ _ c.self.invariant.solved c.derive.ensures.kept; walked = c.self.invariant.walked }
