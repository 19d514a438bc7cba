use Rattle.std.proofs.Common.{◌+◌, ◌*◌, ◌++◌, ap, ◌∙◌}
use Rattle.world_model.specs.Problem.{SumRule, concept_count}
use Rattle.constraint_set.specs.Readers.{all_sums}
use Rattle.point_encode.specs.Model.Clauses.{first_sum_selector, sum_clauses}
use Rattle.point_encode.proofs.Encoding.{sum_added}
use Rattle.point_encode.proofs.encode.add_sums.Goals as goal

pub loop-sum-preserved : goal.loop-sum-preserved
loop-sum-preserved c =
    let p = c.args.problem.now in
    let s : SumRule = record { whole = c.sum_of-whole.result.0; parts = c.sum_of-whole.result.1.now } in
    let done = c.loop-sum.clauses.items in
    sum_added (all_sums p) s done c.add_sum.new.clauses.items _ (first_sum_selector p) c.loop-sum.sum c.sum_of-whole.ensures.value
    (c.in_ok-add_sum.ensures ∙ ap (λ n. done ++ sum_clauses (n + c.loop-sum.sum) s) (c.first_selector-first.ensures.value ∙ ap (λ n. concept_count p + 3 * n) c.pair_count.ensures))
    c.loop-sum.invariant
