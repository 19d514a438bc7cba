use Rattle.claims_run.proofs.explain.TurnLemmas.{turned_asked}
use Rattle.claims_run.proofs.explain.laws.turned_is_asked.Goals as goal

pub returns : goal.returns
returns c = turned_asked
