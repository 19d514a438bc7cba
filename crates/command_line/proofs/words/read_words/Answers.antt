use Rattle.std.proofs.Common.{map, string_bytes}
use Rattle.command_line.proofs.MadeLemmas.{made_if}
use Rattle.command_line.proofs.words.read_words.Goals as goal

pub returns-clause-made : goal.returns-clause-made
returns-clause-made g c = made_if (g.K.KnownNames.names c.args.known.now) (map string_bytes c.args.words.now) c.request_of.result c.request_of.ensures.request
