use Rattle.std.proofs.Common.{true, false, map}
use Rattle.set_family.proofs.SetLists.{rows_pass, family_by}
use Rattle.set_family.proofs.Family.from_lists.Goals as goal

pub invariant_of-result : goal.invariant_of-result
invariant_of-result c =
    rows_pass (λ v. v.items) c.args.u c.args.lists.items c.deref.result.now true c.deref.ensures.value c.if-all_sets_below.ensures

pub returns-then-all_sets_below : goal.returns-then-all_sets_below
returns-then-all_sets_below c =
    family_by c.args.u (map (λ v. v.items) c.args.lists.items) true
    (rows_pass (λ v. v.items) c.args.u c.args.lists.items c.deref.result.now true c.deref.ensures.value c.if-all_sets_below.ensures)

pub returns-else-all_sets_below : goal.returns-else-all_sets_below
returns-else-all_sets_below c =
    family_by c.args.u (map (λ v. v.items) c.args.lists.items) false
    (rows_pass (λ v. v.items) c.args.u c.args.lists.items c.deref.result.now false c.deref.ensures.value c.if-all_sets_below.ensures)
