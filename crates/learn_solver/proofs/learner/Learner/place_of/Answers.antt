use Rattle.std.proofs.Common.{ℕ, ◌≡◌, ◌<◌, ◌∙◌, Option, Some, None, List, length, sym, ap}
use Rattle.std.specs.Prelude.{IfSome}
use Rattle.lits_core.specs.Literals.{variable_of}
use Rattle.watch_arena.specs.declared.places.Place.{Place}
use Rattle.watch_arena.specs.Places.{place_at, place_of}
use Rattle.learn_solver.proofs.TrailPlaces.{place_of-found}
use Rattle.learn_solver.proofs.learner.Learner.place_of.Goals as goal

found : (places : List Place) (variable : ℕ) (o : Option ℕ) → o ≡ place_of places variable → IfSome o (λ p. (p < length places) × (variable_of (place_at places p).lit ≡ variable))
found places variable None e = tt
found places variable (Some p) e = place_of-found places variable p (sym e)

pub returns-clause-place : goal.returns-clause-place
returns-clause-place c = c.place_of.ensures ∙ ap (place_of c.args.self.now.trail.places) c.variable.ensures.value

pub returns-clause-within : goal.returns-clause-within
returns-clause-within c =
    found c.args.self.now.trail.places (variable_of c.args.lit) c.place_of.result (c.place_of.ensures ∙ ap (place_of c.args.self.now.trail.places) c.variable.ensures.value)
