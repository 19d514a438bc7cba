use Rattle.lits_core.proofs.DerivationLemmas.{DerivedFollow-first, DerivedFollow-next, DerivedFollow-state_after, given-state_after}
use Rattle.lits_core.proofs.law_derived_clauses_follow.Goals as goal

pub returns : goal.returns
returns c = record {
  first = DerivedFollow-first;
  next = DerivedFollow-next;
  lines = DerivedFollow-state_after;
  given_stay = given-state_after;
}
