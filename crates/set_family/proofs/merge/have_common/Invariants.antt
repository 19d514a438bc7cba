use Rattle.std.proofs.Common.{◌≡◌, IsTrue, ◌+◌, ◌-◌, ◌≤◌, length, drop}
use Rattle.rcc5_core.specs.Relation.{have_common, is_ascending}
use Rattle.set_family.proofs.merge.have_common.Given as goal

-- the answer for what is left is that for the whole
abbrev pub invariant-merge : goal.invariant-merge
invariant-merge l = record {
  in_left : l.i ≤ length l.x;
  in_right : l.j ≤ length l.y;
  whole : have_common (drop l.i l.x) (drop l.j l.y) ≡ have_common l.x l.y;
  left : IsTrue (is_ascending (drop l.i l.x));
  right : IsTrue (is_ascending (drop l.j l.y));
}

abbrev pub decreases-merge : goal.decreases-merge
decreases-merge l = (length l.x - l.i) + (length l.y - l.j)
