use Rattle.std.proofs.Common.{refl}
use Rattle.world_model.proofs.examples.two_partings.Goals as goal

pub returns : goal.returns
returns c = refl
