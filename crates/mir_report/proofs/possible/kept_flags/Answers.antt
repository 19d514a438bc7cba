use Rattle.std.proofs.Common.{◌∙◌, ◌∷◌, ◌++◌, [], take, sym, ap}
use Rattle.std.proofs.lemmas.List.{take_more}
use Rattle.std.proofs.lemmas.Option.{get_or_from_slice_get, slice_get_within}
use Rattle.mir_report.proofs.possible.kept_flags.Goals as goal

pub flags-preserved : goal.flags-preserved
flags-preserved c =
    let kept = c.args.problem.now.kept in
    let i = c.flags.index in
    let flag = c.is_kept.result in
    c.in_ok-push.ensures.items ∙ ap (λ flags. flags ++ flag ∷ []) c.flags.invariant ∙ ap (λ x. take i kept ++ x ∷ []) (sym (get_or_from_slice_get kept i flag flag c.is_kept.ensures))
    ∙ sym (take_more kept i flag (slice_get_within kept i flag c.is_kept.ensures))
