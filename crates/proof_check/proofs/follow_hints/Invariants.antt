use Rattle.std.proofs.Common.{◌≡◌, drop}
use Rattle.lits_core.specs.Derivation.{hints_fault}
use Rattle.proof_check.proofs.follow_hints.Given as goal

-- the rest of the hints comes to what all do
abbrev pub invariant-loop-hint : goal.invariant-loop-hint
invariant-loop-hint l = hints_fault l.clauses (drop l.hint-index l.hints) l.held ≡ hints_fault l.clauses l.hints l.initial.held
