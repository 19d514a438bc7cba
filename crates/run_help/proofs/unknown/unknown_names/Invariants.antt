use Rattle.std.proofs.Common.{length}
use Rattle.run_help.proofs.unknown.unknown_names.Given as goal

abbrev pub decreases-loop-token : goal.decreases-loop-token
decreases-loop-token l = length l.rest
