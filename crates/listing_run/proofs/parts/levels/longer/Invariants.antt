use Rattle.std.proofs.Common.{◌≡◌, [], ◌∷◌, ◌++◌, map, take}
use Rattle.std.specs.Prelude.{filter}
use Rattle.rcc5_core.specs.RelationSet.{has}
use Rattle.listing_run.proofs.parts.levels.longer.Given as goal

abbrev pub invariant-loop-rel : goal.invariant-loop-rel
invariant-loop-rel l = l.longer.items ≡ map (λ rel. l.prefix ++ rel ∷ []) (filter (has l.set) (take l.rel-index l.rel-items))
