use Rattle.std.proofs.Common.{◌<◌, ℕ, List, length, sym, subst, arith}
use Rattle.std.specs.Prelude.{Contains}
use Rattle.world_model.proofs.Members.{In-get_or, contains_from_in}
use Rattle.point_frames.specs.declared.groups.Group.{Group}
use Rattle.point_frames.specs.Groups.{AreOpen, AreSplit}
use Rattle.point_frames.proofs.Grouped.{AreSoFar, so_far_none, so_far_more, so_far_all, split_fewer}
use Rattle.point_frames.proofs.groups.groups_of.Goals as goal

pub loop-alloc-init : goal.loop-alloc-init
loop-alloc-init c = subst (λ (groups : List Group). AreSoFar c.args.rows.now groups c.in_ok-rest.rest.items) (sym c.new-groups.ensures.items) (so_far_none c.args.rows.now c.in_ok-rest.rest.items c.in_ok-rest.ensures.open c.in_ok-rest.ensures.all)

pub place_left-requires-clause-row : goal.place_left-requires-clause-row
place_left-requires-clause-row c = subst (λ (r : ℕ). r < c.args.rows.now.count) (sym c.index.ensures) (c.loop-alloc.invariant.rest_open 0 c.index.result.now (omega (arith, c.loop-alloc-test.true, c.len.ensures))).1

pub split-requires : goal.split-requires
split-requires c = subst (λ (list : List ℕ). AreOpen c.args.rows.now.count list) (sym c.deref.ensures.value) c.loop-alloc.invariant.rest_open

pub loop-alloc-smaller : goal.loop-alloc-smaller
loop-alloc-smaller c =
    let rows = c.args.rows.now in
    let rest = c.loop-alloc.rest.items in
    let s : AreSplit rows rest c.in-Some.place c.in_ok-with.with.items c.in_ok-with.without.items = subst (λ (list : List ℕ). AreSplit rows list c.in-Some.place c.in_ok-with.with.items c.in_ok-with.without.items) c.deref.ensures.value c.in_ok-with.ensures in
    let some : 0 < length rest = omega (arith, c.loop-alloc-test.true, c.len.ensures) in
    let has : Contains rest c.index.result.now = subst (Contains rest) (sym c.index.ensures) (contains_from_in (In-get_or rest 0 c.index.result.now some)) in
    split_fewer rows c.in-Some.place c.index.result.now rest c.in_ok-with.with.items c.in_ok-with.without.items s has c.in-Some.ensures

pub loop-alloc-preserved : goal.loop-alloc-preserved
loop-alloc-preserved c =
    let rows = c.args.rows.now in
    let group : Group = record { place = c.in-Some.place; rows = c.in_ok-with.with } in
    let s : AreSplit rows c.loop-alloc.rest.items group.place group.rows.items c.in_ok-with.without.items = subst (λ (list : List ℕ). AreSplit rows list group.place group.rows.items c.in_ok-with.without.items) c.deref.ensures.value c.in_ok-with.ensures in
    subst (λ (groups : List Group). AreSoFar rows groups c.in_ok-with.without.items) (sym c.in_ok-push.ensures.items)
    (so_far_more rows c.loop-alloc.groups.items group c.loop-alloc.rest.items c.in_ok-with.without.items c.loop-alloc.invariant s)

pub returns : goal.returns
returns c = so_far_all c.args.rows.now c.loop-alloc.groups.items c.loop-alloc.rest.items c.requires c.loop-alloc.invariant (omega (arith, c.loop-alloc-test.false, c.len.ensures))
