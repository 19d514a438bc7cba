use Rattle.std.proofs.Common.{subst}
use Rattle.watch_arena.specs.Trails.{TrailState, IsCompacted}
use Rattle.watch_arena.specs.Engines.{trail_state}
use Rattle.watch_arena.proofs.CompactedClauses.{IsCompacted-from}
use Rattle.watch_arena.proofs.trail.Trail.compact.Goals as goal

pub returns : goal.returns
returns c =
    subst (λ (t : TrailState). IsCompacted t (trail_state c.compact.new.self)) c.self.view_is
    (IsCompacted-from c.self.inside.engine c.compact.new.self c.self.invariant c.compact.ensures.compacts)
