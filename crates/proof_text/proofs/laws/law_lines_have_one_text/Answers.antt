use Rattle.proof_text.proofs.LineLemmas.{line_of-read}
use Rattle.proof_text.proofs.laws.law_lines_have_one_text.Goals as goal

pub returns : goal.returns
returns c = record {
  text = λ bytes line e. (line_of-read bytes line e).0;
  line = λ bytes line e. (line_of-read bytes line e).1;
}
