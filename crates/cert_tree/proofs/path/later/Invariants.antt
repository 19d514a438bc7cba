use Rattle.std.proofs.Common.{◌≡◌, ◌≤◌, true, false, length}
use Rattle.cert_rules.specs.Trees.{sets_of}
use Rattle.cert_rules.specs.Order.{is_shown, onward}
use Rattle.cert_tree.proofs.path.later.Given as goal

-- what comes after the whole path comes after what is left of it
abbrev pub invariant-loop-rel : goal.invariant-loop-rel
invariant-loop-rel l = record {
  next : onward (sets_of l.tree) l.tree.from false l.path ≡ onward (sets_of l.tree) l.tree.from false l.fn.path;
  short : length l.path ≤ length l.tree.levels;
  shown : is_shown l.tree.from l.path ≡ true;
}

abbrev pub decreases-loop-rel : goal.decreases-loop-rel
decreases-loop-rel l = length l.path
