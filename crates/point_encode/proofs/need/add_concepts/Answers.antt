use Rattle.std.proofs.Common.{arith}
use Rattle.point_encode.proofs.NeedLists.{concept_added, concept_in_range}
use Rattle.point_encode.proofs.need.add_concepts.Goals as goal

pub loop-concept-preserved : goal.loop-concept-preserved
loop-concept-preserved c =
    let p = c.args.problem.now in
    record {
      added = concept_added p c.args.needs.now.items _ _ _ c.in_ok-push.ensures.items c.loop-concept.invariant.added;
      range = concept_in_range p _ _ _ c.in_ok-push.ensures.items (omega arith) c.loop-concept.invariant.range;
    }
