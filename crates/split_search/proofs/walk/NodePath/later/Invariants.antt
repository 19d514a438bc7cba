use Rattle.std.proofs.Common.{◌≡◌, false, length}
use Rattle.split_search.specs.Walking.{IsWalk, next_node}
use Rattle.split_search.proofs.walk.NodePath.later.Given as goal

-- what comes after the whole path comes after what is left of it
abbrev pub invariant-loop-rel : goal.invariant-loop-rel
invariant-loop-rel l = record {
  walk : IsWalk l.self;
  subject : l.self.subject ≡ l.fn.self.subject;
  next : next_node l.self.subject false l.self.path ≡ next_node l.fn.self.subject false l.fn.self.path;
}

abbrev pub decreases-loop-rel : goal.decreases-loop-rel
decreases-loop-rel l = length l.self.path
