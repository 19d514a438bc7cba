use Rattle.std.proofs.Common.{◌≡◌, length}
use Rattle.conflict_clause.proofs.Shortened.{AreLeft, IsShortened}
use Rattle.conflict_clause.proofs.analysis.Analysis.minimize.Given as goal

abbrev pub invariant-loop-place : goal.invariant-loop-place
invariant-loop-place l = record {
  marks : l.self.marks ≡ l.fn.self.marks;
  seen : l.self.seen.items ≡ l.fn.self.seen.items;
  lowest : l.self.lowest ≡ l.fn.self.lowest;
  left : AreLeft l.trail l.fn.self.lits.items l.places.items;
  shortened : IsShortened l.trail l.fn.self l.self l.places.items;
}

abbrev pub decreases-loop-place : goal.decreases-loop-place
decreases-loop-place l = length l.places.items
