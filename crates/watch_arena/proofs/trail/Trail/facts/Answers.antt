use Rattle.std.proofs.Common.{subst}
use Rattle.watch_arena.specs.Trails.{TrailState, IsTrail}
use Rattle.watch_arena.proofs.TrailView.{IsTrail-sound}
use Rattle.watch_arena.proofs.trail.Trail.facts.Goals as goal

pub returns : goal.returns
returns c = subst (λ (t : TrailState). IsTrail t) c.self.view_is (IsTrail-sound c.self.inside.engine c.self.invariant)
