use Rattle.std.proofs.Common.{subst, get_or, true}
use Rattle.world_model.specs.Problem.{concept_count, children_of}
use Rattle.world_model.proofs.Members.{In, In-get_or}
use Rattle.point_table.proofs.Building.{same_size, child_below, child_implies, gained_implied, size_after, square_stays, row_in_square, place_in_square}
use Rattle.point_table.proofs.build.add_parent.Goals as goal

pub loop-child-init : goal.loop-child-init
loop-child-init c = record { size = same_size c.args.implied.now; rules = c.requires.rules }

pub set_if-requires-clause-row : goal.set_if-requires-clause-row
set_if-requires-clause-row c =
    let p = c.args.problem.now in
    let child = get_or c.children-child-items.result.now c.loop-child.child-index 0 in
    let i : In child (children_of p c.args.concept) = subst (In child) c.children-child-items.ensures (In-get_or c.children-child-items.result.now c.loop-child.child-index 0 c.loop-child-test.true) in
    row_in_square (concept_count p) c.loop-child.implied child (square_stays (concept_count p) c.args.implied.now c.loop-child.implied c.requires.square c.loop-child.invariant.size)
    (child_below p c.facts.ensures.built c.args.concept child i)

pub set_if-requires-clause-within : goal.set_if-requires-clause-within
set_if-requires-clause-within c =
    let p = c.args.problem.now in
    place_in_square (concept_count p) c.loop-child.implied c.args.concept (square_stays (concept_count p) c.args.implied.now c.loop-child.implied c.requires.square c.loop-child.invariant.size) c.requires.within

pub loop-child-preserved : goal.loop-child-preserved
loop-child-preserved c =
    let p = c.args.problem.now in
    let child = get_or c.children-child-items.result.now c.loop-child.child-index 0 in
    let i : In child (children_of p c.args.concept) = subst (In child) c.children-child-items.ensures (In-get_or c.children-child-items.result.now c.loop-child.child-index 0 c.loop-child-test.true) in
    record {
      size = size_after c.args.implied.now c.loop-child.implied c.set_if.new.rows c.loop-child.invariant.size c.set_if.ensures.size;
      rules = gained_implied p c.loop-child.implied c.set_if.new.rows true child c.args.concept c.loop-child.invariant.rules c.set_if.ensures.bits
          (λ _. child_implies p c.args.concept child c.requires.within i);
    }
