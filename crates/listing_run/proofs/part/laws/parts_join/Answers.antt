use Rattle.listing_run.proofs.part.JoinLemmas.{parts_join_law}
use Rattle.listing_run.proofs.part.laws.parts_join.Goals as goal

pub returns : goal.returns
returns c = parts_join_law
