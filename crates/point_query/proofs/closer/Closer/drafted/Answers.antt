use Rattle.point_query.proofs.Querying.{keeps_still}
use Rattle.point_query.proofs.closer.Closer.drafted.Goals as goal

pub returns-in_default : goal.returns-in_default
returns-in_default c = record { solver = keeps_still _ _ c.requires.solver; closed = tt }
