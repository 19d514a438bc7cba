use Rattle.std.proofs.Common.{◌≡◌, length, ap, ◌∙◌, arith}
use Rattle.std.proofs.lemmas.List.FromFn.{length-map-range_with_len}
use Rattle.world_model.specs.Problem.{concept_count}
use Rattle.merge_print.specs.Merged.{leader_of}
use Rattle.merge_print.proofs.ListLemmas.{map_took}
use Rattle.merge_print.proofs.merge.leaders.Goals as goal

pub loop-concept-preserved : goal.loop-concept-preserved
loop-concept-preserved c = map_took (leader_of c.args.problem.now c.args.table.now) _ _ c.loop-concept.concept _ c.loop-concept.invariant c.leader.ensures.leader c.in_ok-push.ensures.items

pub returns-clause-count : goal.returns-clause-count
returns-clause-count c =
    let n : c.loop-concept.concept ≡ concept_count c.args.problem.now = omega arith in
    ap length c.loop-concept.invariant ∙ length-map-range_with_len (leader_of c.args.problem.now c.args.table.now) 0 c.loop-concept.concept ∙ n
