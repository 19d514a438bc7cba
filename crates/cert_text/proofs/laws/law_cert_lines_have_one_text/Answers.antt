use Rattle.cert_text.proofs.OneTextLemmas.{cert_line_of-read}
use Rattle.cert_text.proofs.laws.law_cert_lines_have_one_text.Goals as goal

pub returns : goal.returns
returns c = record {
  text = λ bytes line e. (cert_line_of-read bytes line e).0;
  line = λ bytes line e. (cert_line_of-read bytes line e).1;
}
