use Rattle.std.proofs.Common.{◌≡◌, drop}
use Rattle.command_line.specs.Words.{has_same_name}
use Rattle.command_line.proofs.words.has_same_name.Given as goal

-- none of the first operands gives a name that one behind it gives
abbrev pub invariant-loop-place : goal.invariant-loop-place
invariant-loop-place l = has_same_name l.operands ≡ has_same_name (drop l.place l.operands)
