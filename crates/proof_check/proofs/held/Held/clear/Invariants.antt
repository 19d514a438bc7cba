use Rattle.std.proofs.Common.{◌≡◌, ℕ, true, [], vec_len}
use Rattle.lits_core.specs.Derivation.{has_lit}
use Rattle.proof_check.specs.Marks.{is_marked}
use Rattle.proof_check.proofs.held.Held.clear.Given as goal

-- the codes that are still marked are those of literals still listed
abbrev pub invariant-loop-lit : goal.invariant-loop-lit
invariant-loop-lit l = record {
  none : l.self-inside.others.keys ≡ [];
  listed : (code : ℕ) → is_marked l.self-inside.table.items l.self-inside.others code ≡ true → has_lit l.self-inside.lits.items code ≡ true;
}

abbrev pub decreases-loop-lit : goal.decreases-loop-lit
decreases-loop-lit l = vec_len l.self-inside.lits
