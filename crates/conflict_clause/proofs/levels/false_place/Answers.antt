use Rattle.std.proofs.Common.{◌∙◌, ap}
use Rattle.watch_arena.specs.Places.{place_of}
use Rattle.conflict_clause.proofs.AtPlaces.{false-some, false-none}
use Rattle.conflict_clause.proofs.levels.false_place.Goals as goal

pub unreachable-requires : goal.unreachable-requires
unreachable-requires c = false-none c.args.trail.now c.args.lit c.facts.ensures c.requires.off (c.in-None.ensures ∙ ap (place_of c.args.trail.now.places) c.variable.ensures.value)

pub returns-clause-within : goal.returns-clause-within
returns-clause-within c = (false-some c.args.trail.now c.args.lit c.in-Some.place c.facts.ensures c.requires.off (c.in-Some.ensures ∙ ap (place_of c.args.trail.now.places) c.variable.ensures.value)).0

pub returns-clause-is : goal.returns-clause-is
returns-clause-is c = (false-some c.args.trail.now c.args.lit c.in-Some.place c.facts.ensures c.requires.off (c.in-Some.ensures ∙ ap (place_of c.args.trail.now.places) c.variable.ensures.value)).1
