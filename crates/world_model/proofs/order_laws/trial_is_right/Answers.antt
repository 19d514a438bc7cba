use Rattle.world_model.proofs.TrialLaws.{trial_is_right_law}
use Rattle.world_model.proofs.order_laws.trial_is_right.Goals as goal

pub returns : goal.returns
returns c = trial_is_right_law
