use Rattle.std.proofs.Common.{◌↔◌, subst}
use Rattle.std.specs.Prelude.{IsTrue}
use Rattle.world_model.specs.Alive.{problem_at, IsAlive}
use Rattle.point_ladder.proofs.Keeps.{alive_by_ladder}
use Rattle.point_ladder.proofs.ladder.Ladder.is_alive.Goals as goal

pub returns : goal.returns
returns c =
    let s = c.self.inside in
    subst (λ v. IsTrue s.alive ↔ IsAlive (problem_at v.problem v.path)) c.self.view_is
    (alive_by_ladder s c.self.invariant)
