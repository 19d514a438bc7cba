-- A problem with one pair narrowed to a relation, and what shows it dead.
use Rattle.std.specs.Prelude.{◌≤◌, []}
use Rattle.rcc5_core.specs.RelationSet.{only}
use Rattle.lits_core.specs.Derivation.{State}
use Rattle.world_model.specs.Problem.{Problem, narrowed}
use Rattle.world_model.specs.Alive.{IsAlive}
use Rattle.world_model.specs.Node.{pair_at}
use Rattle.cert_rules.specs.Writing.{IsClosedNeed}
use Rattle.dead_pairs.specs.declared.lone.Lone.{Lone}
use Rattle.dead_pairs.specs.declared.why.Closing.{Closing}

-- the problem with the pair narrowed to the relation
abbrev pub lone_problem : Problem → Lone → Problem
lone_problem p lone = narrowed p (pair_at p lone.pair) (only lone.rel)

-- this problem forces the need, and the live clause with the id, from 1 on, leaves it no point: so it is dead
pub record IsClosing (p : Problem) (state : State) (lone : Lone) (closing : Closing) : Type 0 where
  pub closed : IsClosedNeed (lone_problem p lone) state [] closing.need closing.clause
  pub from_one : 1 ≤ closing.clause
  pub dead : IsAlive (lone_problem p lone) → ⊥
