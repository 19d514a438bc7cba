use Rattle.std.proofs.Common.{◌≡◌, ◌++◌, take}
use Rattle.report_run.proofs.showing.rewrite.Given as goal

abbrev pub invariant-loop-rel : goal.invariant-loop-rel
invariant-loop-rel l = l.world ≡ l.initial.world ++ take l.rel-index l.rel-items
