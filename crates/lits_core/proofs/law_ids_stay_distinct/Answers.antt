use Rattle.lits_core.proofs.DistinctIds.{distinct-first, distinct-next, distinct-state_after}
use Rattle.lits_core.proofs.law_ids_stay_distinct.Goals as goal

pub returns : goal.returns
returns c = record { first = distinct-first; next = distinct-next; lines = distinct-state_after }
