use Rattle.std.proofs.Common.{◌<◌, length, refl, sym, subst}
use Rattle.std.proofs.lemmas.Option.{slice_get_read}
use Rattle.world_model.specs.Problem.{Problem}
use Rattle.constraint_set.proofs.Gathering.{fits_made, said_made}
use Rattle.constraint_set.proofs.shape.Shape.articulation.Goals as goal

pub returns-clause-fit : goal.returns-clause-fit
returns-clause-fit c =
    let stated = c.self.inside.articulations.items in
    let within : c.args.index < length stated = subst (λ (p : Problem). c.args.index < length p.articulations) (sym c.self.view_is) c.requires in
    rw (← c.self.view_is) (fits_made _ _ c.args.index c.index.result.now c.self.invariant (slice_get_read stated (length stated) c.args.index c.index.result.now refl within c.index.ensures))

pub returns-clause-said : goal.returns-clause-said
returns-clause-said c =
    let stated = c.self.inside.articulations.items in
    let within : c.args.index < length stated = subst (λ (p : Problem). c.args.index < length p.articulations) (sym c.self.view_is) c.requires in
    said_made _ _ c.args.index c.index.result.now c.self.invariant (slice_get_read stated (length stated) c.args.index c.index.result.now refl within c.index.ensures)
