use Rattle.std.proofs.Common.{◌≡◌, take}
use Rattle.listing_run.proofs.table_listing.cut_behind.Given as goal

abbrev pub invariant-loop-rel : goal.invariant-loop-rel
invariant-loop-rel l = l.world ≡ take l.rel-index l.table
