use Rattle.std.proofs.Common.{◌≡◌, IsTrue, ◌+◌, ◌-◌, ◌≤◌, length, drop}
use Rattle.rcc5_core.specs.Relation.{is_subset, is_ascending}
use Rattle.set_family.proofs.merge.is_subset.Given as goal

-- the answer for what is left is that for the whole
abbrev pub invariant-merge : goal.invariant-merge
invariant-merge l = record {
  in_left : l.i ≤ length l.x;
  in_right : l.j ≤ length l.y;
  whole : is_subset (drop l.i l.x) (drop l.j l.y) ≡ is_subset l.x l.y;
  left : IsTrue (is_ascending (drop l.i l.x));
  right : IsTrue (is_ascending (drop l.j l.y));
}

abbrev pub decreases-merge : goal.decreases-merge
decreases-merge l = (length l.x - l.i) + (length l.y - l.j)
