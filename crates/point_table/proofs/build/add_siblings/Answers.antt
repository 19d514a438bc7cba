use Rattle.std.proofs.Common.{subst, get_or}
use Rattle.std.specs.Prelude.{Contains}
use Rattle.world_model.specs.Problem.{concept_count}
use Rattle.world_model.proofs.Members.{In-get_or, contains_from_in}
use Rattle.point_table.proofs.Building.{same_size, size_after, square_stays}
use Rattle.point_table.proofs.build.add_siblings.Goals as goal

pub loop-child-init : goal.loop-child-init
loop-child-init c = record { size = same_size c.args.excluded.now; rules = c.requires.rules }

pub add_sibling-requires-clause-child : goal.add_sibling-requires-clause-child
add_sibling-requires-clause-child c =
    let child = get_or c.children-child-items.result.now c.loop-child.child-index 0 in
    subst (λ xs. Contains xs child) c.children-child-items.ensures (contains_from_in (In-get_or c.children-child-items.result.now c.loop-child.child-index 0 c.loop-child-test.true))

pub add_sibling-requires-clause-square : goal.add_sibling-requires-clause-square
add_sibling-requires-clause-square c = square_stays (concept_count c.args.problem.now) c.args.excluded.now c.loop-child.excluded c.requires.square c.loop-child.invariant.size

pub loop-child-preserved : goal.loop-child-preserved
loop-child-preserved c = record {
  size = size_after c.args.excluded.now c.loop-child.excluded c.add_sibling.new.excluded c.loop-child.invariant.size c.add_sibling.ensures.size;
  rules = c.add_sibling.ensures.rules;
}
