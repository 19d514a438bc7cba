use Rattle.std.proofs.Common.{◌≡◌, None, subst, sym}
use Rattle.lits_core.specs.Literals.{variable_of}
use Rattle.watch_arena.specs.Places.{place_of}
use Rattle.watch_arena.specs.Trails.{TrailState, IsReason}
use Rattle.watch_arena.proofs.Promises.{CanAssign-implied}
use Rattle.watch_arena.proofs.trail.Trail.imply.Goals as goal

pub imply-requires-clause-can : goal.imply-requires-clause-can
imply-requires-clause-can c =
    CanAssign-implied c.self.inside.engine c.args.lit c.args.at c.self.invariant
    (subst (λ (t : TrailState). place_of t.places (variable_of c.args.lit) ≡ None) (sym c.self.view_is) c.requires.unassigned)
    (subst (λ (t : TrailState). IsReason t.records t.places c.args.lit c.args.at) (sym c.self.view_is) c.requires.reason)
