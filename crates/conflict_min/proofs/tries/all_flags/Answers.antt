use Rattle.std.proofs.lemmas.Result.{IfOk-weaker}
use Rattle.constraint_set.proofs.Saying.{true_flags}
use Rattle.conflict_min.proofs.tries.all_flags.Goals as goal

pub returns : goal.returns
returns c =
    IfOk-weaker c.vec.result _ _
    (λ flags same. true_flags c.args.problem.now.articulations c.articulation_count.result flags.items (same (λ copy is. cc)) c.articulation_count.ensures) c.vec.ensures.items_if_clones_equal
