use Rattle.cert_reader.specs.Reading.{reading}
use Rattle.cert_rules.proofs.Showing.{accepted_shows_all_law}
use Rattle.cert_check.proofs.laws.law_accepted_bytes_show_all.Goals as goal

pub returns : goal.returns
returns c = λ p built bytes from to worlds e. accepted_shows_all_law p built (reading bytes).lines (reading bytes).ends from to worlds e
