use Rattle.std.proofs.Common.{subst}
use Rattle.watch_arena.specs.Trails.{TrailState, Propagates}
use Rattle.watch_arena.specs.Engines.{trail_state}
use Rattle.watch_arena.proofs.Promises.{Propagates-implied, found_seen}
use Rattle.watch_arena.proofs.trail.Trail.propagate.Goals as goal

pub returns-clause-kept : goal.returns-clause-kept
returns-clause-kept c =
    subst (λ (t : TrailState). Propagates t (trail_state c.propagate.new.self)) c.self.view_is
    (Propagates-implied c.self.inside.engine c.propagate.new.self c.self.invariant c.propagate.ensures.sound c.propagate.ensures.implies)

pub returns-clause-found : goal.returns-clause-found
returns-clause-found c = found_seen c.propagate.new.self c.propagate.result c.propagate.ensures.sound c.propagate.ensures.outcome
