use Rattle.std.proofs.Common.{subst}
use Rattle.proof_text.specs.Lines.{Gives, line_of_words}
use Rattle.proof_text.proofs.LineLemmas.{gives_text, gives_ids}
use Rattle.proof_text.proofs.reading.read_line.Goals as goal

pub returns-clause-text : goal.returns-clause-text
returns-clause-text c =
    gives_text c.args.bytes.now c.read_words.result (subst (λ words. Gives (λ line. line) c.read_words.result (line_of_words words)) c.new.ensures c.read_words.ensures)

pub returns-clause-ids : goal.returns-clause-ids
returns-clause-ids c =
    gives_ids c.args.bytes.now c.read_words.result (subst (λ words. Gives (λ line. line) c.read_words.result (line_of_words words)) c.new.ensures c.read_words.ensures)
