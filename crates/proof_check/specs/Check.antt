-- How a call answers a fault that the definition of derivations gives, and what a book keeps.
use Rattle.std.specs.Prelude.{◌≡◌, ◌≢◌, Option, Some, None, Result, MatchResult, IsTrue}
use Rattle.lits_core.specs.declared.LineFault.{LineFault}
use Rattle.lits_core.specs.declared.LineFault.TheVariants.{NoMemory}
use Rattle.lits_core.specs.Derivation.{State, DerivedFollow, has_distinct_ids}

-- the answer is Ok only where the definition gives no fault, and a fault only where it gives that one; want of memory may
-- come in place of either
abbrev pub Gives : {T : Type 0} → Option LineFault → Result T LineFault → Type 0
Gives fault result = MatchResult result (λ _. fault ≡ None) (λ answer. answer ≢ NoMemory → fault ≡ Some answer)

-- the derived clauses follow from the given ones, and no two live clauses share an id
pub record IsSound (state : State) : Type 0 where
  pub follow : DerivedFollow state
  pub distinct : IsTrue (has_distinct_ids state)
