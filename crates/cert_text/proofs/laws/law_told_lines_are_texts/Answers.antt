use Rattle.std.proofs.lemmas.List.Elements.{recursion_from_All}
use Rattle.cert_text.specs.Lines.{IsCertLine}
use Rattle.cert_text.proofs.StoreLemmas.{lines_in-text, text-lines_in}
use Rattle.cert_text.proofs.laws.law_told_lines_are_texts.Goals as goal

pub returns : goal.returns
returns c = record {
  told = λ lines each. lines_in-text lines (recursion_from_All IsCertLine lines each);
  text = λ bytes lines e. (text-lines_in bytes lines e).0;
}
