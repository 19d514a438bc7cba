-- What is known of a question that is turned round.
use Rattle.std.specs.Prelude.{◌≡◌, ℕ}
use Rattle.rcc5_core.specs.declared.RelSet.{RelSet}
use Rattle.rcc5_core.specs.RelationSet.{converses}
use Rattle.world_model.specs.Family.{Family}
use Rattle.conflict_lattice.specs.Explaining.{has_there}
use Rattle.claims_run.specs.Explain.Answering.{turned}

-- a family has one of the converses at a pair that is turned round just where it has one of the set at the pair
abbrev pub ConversesTurnPairs : Type 0
ConversesTurnPairs = (f : Family) (a b : ℕ) (set : RelSet) → has_there f (b, a) (converses set) ≡ has_there f (a, b) set

-- so the turned question is the one that was asked
abbrev pub TurnedIsAsked : Type 0
TurnedIsAsked = (f : Family) (pair : ℕ × ℕ) (set : RelSet) → has_there f (turned pair set).0 (turned pair set).1 ≡ has_there f pair set
