use Rattle.std.proofs.Common.{subst}
use Rattle.proof_text.specs.Lines.{Gives}
use Rattle.cert_text.specs.Lines.{cert_line_of_words}
use Rattle.cert_text.proofs.OneTextLemmas.{gives_text, gives_ids}
use Rattle.cert_text.proofs.reading.read_cert_line.Goals as goal

pub returns-clause-text : goal.returns-clause-text
returns-clause-text c =
    gives_text c.args.bytes.now c.read_words.result (subst (λ words. Gives (λ line. line) c.read_words.result (cert_line_of_words words)) c.new.ensures c.read_words.ensures)

pub returns-clause-ids : goal.returns-clause-ids
returns-clause-ids c =
    gives_ids c.args.bytes.now c.read_words.result (subst (λ words. Gives (λ line. line) c.read_words.result (cert_line_of_words words)) c.new.ensures c.read_words.ensures)
