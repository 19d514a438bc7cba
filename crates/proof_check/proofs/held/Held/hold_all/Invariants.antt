use Rattle.std.proofs.Common.{take}
use Rattle.lits_core.specs.Derivation.{SameLits}
use Rattle.proof_check.proofs.held.Held.hold_all.Given as goal

abbrev pub invariant-loop-lit : goal.invariant-loop-lit
invariant-loop-lit l = SameLits l.self (take l.lit-index l.lits)
