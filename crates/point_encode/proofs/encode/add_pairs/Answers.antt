use Rattle.std.proofs.Common.{◌+◌, ◌*◌, ◌++◌, ap, ◌∙◌, arith}
use Rattle.world_model.specs.Problem.{concept_count, pairs}
use Rattle.point_encode.specs.Model.Clauses.{pair_clauses}
use Rattle.point_encode.proofs.Encoding.{pair_added}
use Rattle.point_encode.proofs.encode.add_pairs.Goals as goal

pub loop-pair-preserved : goal.loop-pair-preserved
loop-pair-preserved c =
    let p = c.args.problem.now in
    let done = c.loop-pair.clauses.items in
    let k = c.loop-pair.pair in
    pair_added (pairs p) done c.add_pair.new.clauses.items _ (concept_count p) k (omega arith)
    (c.in_ok-add_pair.ensures
    ∙ ap (λ n. done ++ pair_clauses n c.pair_at-x.result) c.first_selector.ensures.value
    ∙ ap (λ pair. done ++ pair_clauses (concept_count p + 3 * k) pair) c.pair_at-x.ensures.value)
    c.loop-pair.invariant
