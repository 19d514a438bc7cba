use Rattle.std.proofs.Common.{◌≡◌, ◌++◌, take, flat_map, string_bytes}
use Rattle.command_line.specs.Help.{optional_form}
use Rattle.command_line.proofs.help.put_optional.Given as goal

abbrev pub invariant-keys : goal.invariant-keys
invariant-keys l = string_bytes l.out ≡ string_bytes l.initial.out ++ flat_map optional_form (take l.key-index l.keys)
