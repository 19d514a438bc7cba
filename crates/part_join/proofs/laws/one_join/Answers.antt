use Rattle.part_join.proofs.LawLemmas.{one_join_law}
use Rattle.part_join.proofs.laws.one_join.Goals as goal

pub returns : goal.returns
returns c = one_join_law
