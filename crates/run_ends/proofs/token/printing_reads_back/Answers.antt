use Rattle.run_ends.proofs.token.ReadingLemmas.{reads_back}
use Rattle.run_ends.proofs.token.printing_reads_back.Goals as goal

pub returns : goal.returns
returns c = λ p q built within. reads_back p q built (c.pairs_stand_once.ensures.number p) within
