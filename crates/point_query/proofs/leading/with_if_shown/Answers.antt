use Rattle.std.proofs.Common.{◌∙◌, ◌∷◌, ◌++◌, [], refl, sym, ap, subst}
use Rattle.rcc5_core.specs.RelationSet.{has}
use Rattle.world_model.specs.Alive.{IsAlive, problem_at}
use Rattle.point_query.specs.Queries.{AllLeadOn}
use Rattle.point_query.proofs.Choosing.{all_more}
use Rattle.point_query.proofs.leading.with_if_shown.Goals as goal

pub shows-requires-clause-allowed : goal.shows-requires-clause-allowed
shows-requires-clause-allowed c = ap (λ s. has s c.args.rel) (sym c.next_set.ensures) ∙ sym c.has.ensures ∙ c.if-not-has.false

pub returns : goal.returns
returns c =
    let w = c.args.pool.now in
    subst (λ set. AllLeadOn w.cursor.problem w.cursor.path set) (sym c.with.ensures)
    (all_more (λ rel. IsAlive (problem_at w.cursor.problem (w.cursor.path ++ rel ∷ []))) c.args.shown c.args.rel c.requires.shown (c.if-not-shows.ensures refl))
