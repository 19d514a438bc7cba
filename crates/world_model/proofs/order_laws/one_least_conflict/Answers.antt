use Rattle.world_model.proofs.TrialLaws.{one_least_conflict_law}
use Rattle.world_model.proofs.order_laws.one_least_conflict.Goals as goal

pub returns : goal.returns
returns c = one_least_conflict_law
