use Rattle.std.proofs.Common.{take}
use Rattle.conflict_clause.specs.Search.{ArePlacesOf}
use Rattle.conflict_clause.proofs.levels.false_places.Given as goal

abbrev pub invariant-loop-lit : goal.invariant-loop-lit
invariant-loop-lit l = ArePlacesOf l.trail (take l.lit-index l.lits) l.places.items
