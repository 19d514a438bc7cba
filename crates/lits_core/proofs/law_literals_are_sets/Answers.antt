use Rattle.lits_core.proofs.LiteralSets.{same-line_fault, same-next_state, same-truth}
use Rattle.lits_core.proofs.law_literals_are_sets.Goals as goal

pub returns : goal.returns
returns c = record { faults = same-line_fault; next = same-next_state; truth = same-truth }
