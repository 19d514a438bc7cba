use Rattle.std.proofs.Common.{subst}
use Rattle.world_model.specs.Alive.{problem_at, IsAlive}
use Rattle.world_search.specs.Walking.{place, IsOpenOrDead}
use Rattle.world_search.proofs.Leading.{leads_after, dead_childless}
use Rattle.world_search.proofs.walk.go_on.Goals as goal

pub returns-in-None-clause-on : goal.returns-in-None-clause-on
returns-in-None-clause-on c =
    let p = c.args.problem.now in
    let m = c.args.walk.now.path in
    let dead : IsAlive (problem_at p m) → ⊥ = subst (IsOpenOrDead p m) c.in-None.is c.requires.found in
    leads_after p m (place c.pass.new.walk) c.pass.new.walk.stage (dead_childless p m dead) c.pass.ensures.on
