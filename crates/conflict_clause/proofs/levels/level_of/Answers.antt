use Rattle.conflict_clause.proofs.AtPlaces.{place_of-within}
use Rattle.conflict_clause.proofs.levels.level_of.Goals as goal

pub level_on-requires : goal.level_on-requires
level_on-requires c = place_of-within c.args.trail.now.places c.variable.result c.in-Some.place c.in-Some.ensures
