use Rattle.std.proofs.Common.{◌∙◌, false, get_or, sym, ap}
use Rattle.std.proofs.lemmas.Option.{get_or_from_slice_get}
use Rattle.point_encode.proofs.asked.is_sum_kept.Goals as goal

pub returns : goal.returns
returns c =
    let kept = c.args.problem.now.kept in
    sym (get_or_from_slice_get kept c.sum_at.result c.is_kept.result false c.is_kept.ensures) ∙ ap (λ k. get_or kept k false) c.sum_at.ensures.value
