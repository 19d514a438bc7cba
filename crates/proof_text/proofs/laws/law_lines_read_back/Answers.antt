use Rattle.proof_text.proofs.LineLemmas.{line_of-text, line_text-no_lf}
use Rattle.proof_text.proofs.laws.law_lines_read_back.Goals as goal

pub returns : goal.returns
returns c = record {
  printed = line_of-text;
  no_lf = line_text-no_lf;
}
