use Rattle.listing_run.proofs.parts.BeginningLemmas.{facts}
use Rattle.listing_run.proofs.parts.finding.facts_of_beginnings.Goals as goal

pub returns : goal.returns
returns c = facts
