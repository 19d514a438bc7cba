use Rattle.claims_run.proofs.explain.TurnLemmas.{converses_turn}
use Rattle.claims_run.proofs.explain.laws.converses_turn_pairs.Goals as goal

pub returns : goal.returns
returns c = converses_turn
