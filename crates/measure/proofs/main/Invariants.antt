use Rattle.std.proofs.Common.{length}
use Rattle.measure.proofs.main.Given as goal

abbrev pub decreases-commands : goal.decreases-commands
decreases-commands l = length l.rest
