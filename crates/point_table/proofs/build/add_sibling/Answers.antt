use Rattle.std.proofs.Common.{subst, get_or}
use Rattle.world_model.specs.Problem.{concept_count, children_of}
use Rattle.world_model.proofs.Members.{In, In-get_or, in_from_contains}
use Rattle.point_table.proofs.Building.{same_size, child_below, child_excludes, gained_excluded, differ, size_after, square_stays, row_in_square, place_in_square}
use Rattle.point_table.proofs.build.add_sibling.Goals as goal

pub loop-other-init : goal.loop-other-init
loop-other-init c = record { size = same_size c.args.excluded.now; rules = c.requires.rules }

pub set_if-requires-clause-row : goal.set_if-requires-clause-row
set_if-requires-clause-row c =
    let p = c.args.problem.now in
    row_in_square (concept_count p) c.loop-other.excluded c.args.child (square_stays (concept_count p) c.args.excluded.now c.loop-other.excluded c.requires.square c.loop-other.invariant.size)
    (child_below p c.facts.ensures.built c.args.concept c.args.child (in_from_contains (children_of p c.args.concept) c.requires.child))

pub set_if-requires-clause-within : goal.set_if-requires-clause-within
set_if-requires-clause-within c =
    let p = c.args.problem.now in
    let other = get_or c.children-other-items.result.now c.loop-other.other-index 0 in
    let i : In other (children_of p c.args.concept) = subst (In other) c.children-other-items.ensures (In-get_or c.children-other-items.result.now c.loop-other.other-index 0 c.loop-other-test.true) in
    place_in_square (concept_count p) c.loop-other.excluded other (square_stays (concept_count p) c.args.excluded.now c.loop-other.excluded c.requires.square c.loop-other.invariant.size)
    (child_below p c.facts.ensures.built c.args.concept other i)

pub loop-other-preserved : goal.loop-other-preserved
loop-other-preserved c =
    let p = c.args.problem.now in
    let other = get_or c.children-other-items.result.now c.loop-other.other-index 0 in
    let i : In other (children_of p c.args.concept) = subst (In other) c.children-other-items.ensures (In-get_or c.children-other-items.result.now c.loop-other.other-index 0 c.loop-other-test.true) in
    record {
      size = size_after c.args.excluded.now c.loop-other.excluded c.set_if.new.rows c.loop-other.invariant.size c.set_if.ensures.size;
      rules = gained_excluded p c.loop-other.excluded c.set_if.new.rows _ c.args.child other c.loop-other.invariant.rules c.set_if.ensures.bits
          (λ on. child_excludes p c.args.concept c.args.child other c.requires.on c.requires.within (in_from_contains (children_of p c.args.concept) c.requires.child) i (differ other c.args.child on));
    }
