use Rattle.std.proofs.Common.{◌≡◌, ◌++◌, map, take}
use Rattle.rcc5_core.specs.Relation.{letter_of}
use Rattle.listing_run.proofs.table_listing.rewrite.Given as goal

abbrev pub invariant-loop-rel : goal.invariant-loop-rel
invariant-loop-rel l = l.line.items ≡ l.initial.line.items ++ map letter_of (take l.rel-index l.rel-items)
