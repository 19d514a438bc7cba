use Rattle.std.proofs.Common.{◌≡◌, drop, None}
use Rattle.proof_check.proofs.HintLemmas.{hint_from}
use Rattle.proof_check.proofs.hint.hint_of.Given as goal

-- the rest of the clause comes to what the whole does
abbrev pub invariant-loop-lit : goal.invariant-loop-lit
invariant-loop-lit l = hint_from l.held l.open (drop l.lit-index l.lits) ≡ hint_from l.held None l.lits
