use Rattle.std.proofs.Common.{◌≡◌, ◌++◌, take, flat_map, string_bytes}
use Rattle.command_line.specs.Help.{command_form}
use Rattle.command_line.proofs.help.put_commands.Given as goal

abbrev pub invariant-commands : goal.invariant-commands
invariant-commands l = string_bytes l.out ≡ string_bytes l.initial.out ++ flat_map command_form (take l.command-index l.commands)
