use Rattle.std.proofs.Common.{map, string_bytes}
use Rattle.command_line.proofs.MadeLemmas.{desk_made_if}
use Rattle.command_line.proofs.desk_words.read_desk_words.Goals as goal

pub returns-clause-apart : goal.returns-clause-apart
returns-clause-apart c = desk_made_if (map string_bytes c.args.words.now) c.desk_request_of.result c.desk_request_of.ensures.request
