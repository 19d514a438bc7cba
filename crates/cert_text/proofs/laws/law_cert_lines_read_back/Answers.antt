use Rattle.cert_text.proofs.LineLemmas.{cert_line_of-text, cert_text-no_lf}
use Rattle.cert_text.proofs.laws.law_cert_lines_read_back.Goals as goal

pub returns : goal.returns
returns c = record {
  printed = cert_line_of-text;
  no_lf = cert_text-no_lf;
}
