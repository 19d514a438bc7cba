use Rattle.std.proofs.Common.{◌∙◌, sym}
use Rattle.point_encode.proofs.Selected.{empty_selected, kept_selected}
use Rattle.point_encode.proofs.asked.is_selected.Goals as goal

pub returns-in-Some-Empty : goal.returns-in-Some-Empty
returns-in-Some-Empty c = λ yes.
    empty_selected c.args.problem.now c.args.prefix.now c.in-Some-Empty.field-0 c.in-Some-Empty.pair c.in-Some-Empty.part c.args.lit c.forced_at.result
    c.in-Some-Empty.field-0-is c.in-Some-Empty.ensures.lit c.in-Some-Empty.ensures.range c.forced_at.ensures (sym c.is_empty.ensures ∙ yes)

pub returns-in-Some-Kept : goal.returns-in-Some-Kept
returns-in-Some-Kept c = λ yes.
    kept_selected c.args.problem.now c.args.prefix.now c.in-Some-Kept.field-0 c.in-Some-Kept.sum c.args.lit
    c.in-Some-Kept.field-0-is c.in-Some-Kept.ensures.lit c.in-Some-Kept.ensures.range (sym c.is_sum_kept.ensures ∙ yes)
