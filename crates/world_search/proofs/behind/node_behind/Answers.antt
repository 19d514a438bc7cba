use Rattle.std.proofs.Common.{subst}
use Rattle.world_search.specs.Walking.{IsBehind, HasNoNode}
use Rattle.world_search.proofs.behind.node_behind.Goals as goal

pub returns-in-None-clause-none : goal.returns-in-None-clause-none
returns-in-None-clause-none c = subst (λ m. HasNoNode c.args.problem.now (IsBehind m)) c.in_ok-path.ensures c.in-None.ensures.none
