use Rattle.std.proofs.Common.{◌+◌, ◌≤◌}
use Rattle.conflict_clause.specs.Search.{IsSearch, Finds}
use Rattle.conflict_clause.proofs.analysis.Analysis.descend.Given as goal

abbrev pub invariant-loop-self : goal.invariant-loop-self
invariant-loop-self l = record {
  search : IsSearch l.trail l.level l.place l.self;
  finds : Finds l.trail l.level l.place l.fn.self l.self;
  left : l.self.lowest + l.left ≤ l.place;
}

abbrev pub decreases-loop-self : goal.decreases-loop-self
decreases-loop-self l = l.place
