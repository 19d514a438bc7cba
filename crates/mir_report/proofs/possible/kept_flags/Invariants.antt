use Rattle.std.proofs.Common.{◌≡◌, take}
use Rattle.mir_report.proofs.possible.kept_flags.Given as goal

abbrev pub invariant-flags : goal.invariant-flags
invariant-flags l = l.flags.items ≡ take l.index l.problem.kept
