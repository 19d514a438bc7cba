use Rattle.std.proofs.Common.{◌≡◌, [], map, drop, string_bytes}
use Rattle.command_line.specs.Words.{operands_of}
use Rattle.command_line.proofs.words.read_operands.Given as goal

abbrev pub invariant-further : goal.invariant-further
invariant-further g l =
    operands_of (g.K.KnownNames.names l.known) l.row [] (map string_bytes l.words) ≡ operands_of (g.K.KnownNames.names l.known) l.row l.operands.items (map string_bytes (drop l.word-index l.words))
