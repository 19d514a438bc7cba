use Rattle.std.proofs.Common.{refl}
use Rattle.world_model.proofs.examples.remainders_are_equal.Goals as goal

pub returns : goal.returns
returns c = record { covered = refl; uncovered = refl }
