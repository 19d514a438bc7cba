-- What makes a node dead.
use Rattle.std.specs.Prelude.{◌<◌, ◌≤◌, List, IsTrue}
use Rattle.rcc5_core.specs.declared.Rel.{Rel}
use Rattle.rcc5_core.specs.RelationSet.{is_empty_set}
use Rattle.lits_core.specs.Derivation.{State}
use Rattle.world_model.specs.Problem.{Problem, pair_count}
use Rattle.world_model.specs.Alive.{allowed, problem_at}
use Rattle.world_model.specs.Node.{pair_at}
use Rattle.cert_rules.specs.Writing.{IsClosedNeed}
use Rattle.dead_nodes.specs.declared.hints.Reason.{Reason}
use Rattle.dead_nodes.specs.declared.why.WhyDead.{WhyDead}
use Rattle.dead_nodes.specs.declared.why.WhyDead.TheVariants.{NoPoint, NoRelation}

-- the node forces the need, and the clause with the id is live and leaves it no point
abbrev pub Closes : Problem → State → List Rel → Reason → Type 0
Closes p state m reason = IsClosedNeed p state m reason.need reason.clause

-- a clause, with an id from 1 on, leaves a need no point; or a pair is left no relation
abbrev pub IsWhy : Problem → State → List Rel → WhyDead → Type 0
IsWhy p state m (NoPoint reason) = Closes p state m reason × (1 ≤ reason.clause)
IsWhy p state m (NoRelation pair) = (pair < pair_count p) × IsTrue (is_empty_set (allowed (problem_at p m) (pair_at p pair)))
