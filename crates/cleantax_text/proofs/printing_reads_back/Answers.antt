use Rattle.cleantax_text.proofs.ReadsBackLemmas.{reads_back}
use Rattle.cleantax_text.proofs.printing_reads_back.Goals as goal

pub returns : goal.returns
returns c = reads_back
