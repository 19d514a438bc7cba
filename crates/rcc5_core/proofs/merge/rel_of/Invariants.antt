use Rattle.std.proofs.Common.{◌≡◌, IsTrue, ◌+◌, ◌-◌, ◌≤◌, length, drop}
use Rattle.rcc5_core.specs.Relation.{relation_of, is_ascending}
use Rattle.rcc5_core.proofs.Sets.{regions_by}
use Rattle.rcc5_core.proofs.merge.rel_of.Given as goal

-- the regions seen so far and those of what is left are those of the whole
abbrev pub invariant-merge : goal.invariant-merge
invariant-merge l = record {
  in_left : l.i ≤ length l.x;
  in_right : l.j ≤ length l.y;
  whole : regions_by l.left_only l.both l.right_only (drop l.i l.x) (drop l.j l.y) ≡ relation_of l.x l.y;
  left : IsTrue (is_ascending (drop l.i l.x));
  right : IsTrue (is_ascending (drop l.j l.y));
}

abbrev pub decreases-merge : goal.decreases-merge
decreases-merge l = (length l.x - l.i) + (length l.y - l.j)
