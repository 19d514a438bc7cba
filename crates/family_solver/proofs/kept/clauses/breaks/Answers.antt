use Rattle.family_solver.proofs.kept.Telling.{breaks_outside, breaks_within}
use Rattle.family_solver.proofs.kept.clauses.breaks.Goals as goal

pub returns-then-has_concept : goal.returns-then-has_concept
returns-then-has_concept c = breaks_within c.args.point.now (record { whole = c.args.whole; parts = c.args.parts.now }) c.has_concept.result c.is_in_one-in_part.result c.has_concept.ensures c.is_in_one-in_part.ensures c.if-has_concept.true

pub returns-else-has_concept : goal.returns-else-has_concept
returns-else-has_concept c = breaks_outside c.args.point.now (record { whole = c.args.whole; parts = c.args.parts.now }) c.has_concept.result c.is_in_one-in_part.result c.has_concept.ensures c.is_in_one-in_part.ensures c.if-has_concept.false
