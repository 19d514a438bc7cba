use Rattle.proof_text.proofs.NumberLemmas.{number_in-decimal, number_in-spells, decimal-no_byte}
use Rattle.proof_text.proofs.laws.law_numbers_read_back.Goals as goal

pub returns : goal.returns
returns c = record {
  printed = number_in-decimal;
  read = λ low high n word small h. (number_in-spells low high n word small h).text;
  digits = decimal-no_byte;
}
