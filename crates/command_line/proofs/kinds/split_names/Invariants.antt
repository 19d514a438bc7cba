use Rattle.std.proofs.Common.{◌≡◌, ◌++◌, length}
use denote.Text.{Utf8}
use denote.Shadow.{shadow}
use Rattle.command_line.specs.Words.{names_in}
use Rattle.command_line.proofs.kinds.split_names.Given as goal

abbrev pub invariant-names : goal.invariant-names
invariant-names l = shadow (Utf8 l.rest) × (names_in l.value ≡ l.names.items ++ names_in l.rest)

abbrev pub decreases-names : goal.decreases-names
decreases-names l = length l.rest
