use Rattle.std.proofs.Common.{◌≡◌, take}
use Rattle.std.specs.List.{flat_map}
use Rattle.command_line.specs.Words.{file_names}
use Rattle.command_line.proofs.words.all_file_names.Given as goal

abbrev pub invariant-loop-place : goal.invariant-loop-place
invariant-loop-place l = l.all.items ≡ flat_map file_names (take l.place l.operands)
