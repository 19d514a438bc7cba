use Rattle.std.proofs.Common.{◌≡◌, None, subst, sym}
use Rattle.lits_core.specs.Literals.{variable_of}
use Rattle.watch_arena.specs.Places.{place_of}
use Rattle.watch_arena.specs.Trails.{TrailState}
use Rattle.watch_arena.proofs.Promises.{unassigned_marks}
use Rattle.watch_arena.proofs.trail.Trail.assume.Goals as goal

pub assume-requires-clause-not_true : goal.assume-requires-clause-not_true
assume-requires-clause-not_true c =
    (unassigned_marks c.self.inside.engine c.args.lit c.self.invariant
    (subst (λ (t : TrailState). place_of t.places (variable_of c.args.lit) ≡ None) (sym c.self.view_is) c.requires.unassigned)).0

pub assume-requires-clause-not_false : goal.assume-requires-clause-not_false
assume-requires-clause-not_false c =
    (unassigned_marks c.self.inside.engine c.args.lit c.self.invariant
    (subst (λ (t : TrailState). place_of t.places (variable_of c.args.lit) ≡ None) (sym c.self.view_is) c.requires.unassigned)).1
