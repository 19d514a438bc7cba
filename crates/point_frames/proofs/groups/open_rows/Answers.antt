use Rattle.std.proofs.Common.{◌+◌, ℕ, List, sym, subst, arith}
use Rattle.point_frames.specs.Groups.{AreOpen, HasOpen}
use Rattle.point_frames.proofs.Grouped.{all_none, open_pushed, has_pushed}
use Rattle.point_frames.proofs.groups.open_rows.Goals as goal

pub loop-row-init : goal.loop-row-init
loop-row-init c = record {
  open_rows = subst (λ (list : List ℕ). AreOpen 2 list) (sym c.new-list.ensures.items) (all_none _);
  all = λ r low small. absurd (omega (arith, low, small));
  two = omega arith;
}

pub loop-row-preserved : goal.loop-row-preserved
loop-row-preserved c =
    let n = c.loop-row.row in
    let so = c.loop-row.invariant in
    let items = sym c.in_ok-push.ensures.items in
    record {
      open_rows = subst (λ (list : List ℕ). AreOpen (n + 1) list) items (open_pushed n c.loop-row.list.items so.open_rows so.two);
      all = subst (λ (list : List ℕ). HasOpen (n + 1) list) items (has_pushed n c.loop-row.list.items so.all);
      two = omega (arith, so.two);
    }

pub returns-clause-open : goal.returns-clause-open
returns-clause-open c = subst (λ (n : ℕ). AreOpen n c.loop-row.list.items) (omega (arith, c.loop-row-test.false, c.loop-row.auto.row-end, c.count-row-end.ensures)) c.loop-row.invariant.open_rows

pub returns-clause-all : goal.returns-clause-all
returns-clause-all c = λ r low small. c.loop-row.invariant.all r low (omega (arith, small, c.loop-row-test.false, c.count-row-end.ensures))
