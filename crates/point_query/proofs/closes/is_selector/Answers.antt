use Rattle.std.proofs.Common.{◌≡◌, ◌∙◌, sym, subst}
use Rattle.std.specs.Prelude.{Contains}
use Rattle.point_encode.specs.Model.Forced.{selectors_of}
use Rattle.point_encode.specs.Selectors.{IsSelector, selector_lit}
use Rattle.point_encode.proofs.Selected.{empty_selected, kept_selected}
use Rattle.point_query.proofs.closes.is_selector.Goals as goal

pub returns-in-Some-Empty : goal.returns-in-Some-Empty
returns-in-Some-Empty c = λ yes.
    let found = c.in-Some-Empty.field-0 in
    let same = c.problem-problem.ensures in
    empty_selected c.args.cursor.now.problem c.args.cursor.now.path found c.in-Some-Empty.pair c.in-Some-Empty.part c.args.lit c.forced_at.result c.in-Some-Empty.field-0-is
    (subst (λ p. selector_lit p found ≡ c.args.lit) same c.in-Some-Empty.ensures.lit) (subst (λ p. IsSelector p found) same c.in-Some-Empty.ensures.range)
    c.forced_at.ensures (sym c.is_empty.ensures ∙ yes)

pub returns-in-Some-Kept : goal.returns-in-Some-Kept
returns-in-Some-Kept c = λ kept.
    let found = c.in-Some-Kept.field-0 in
    let same = c.problem-problem.ensures in
    subst (λ p. Contains (selectors_of p c.args.cursor.now.path) c.args.lit) same
    (kept_selected c.problem-problem.result.now c.args.cursor.now.path found c.in-Some-Kept.sum c.args.lit c.in-Some-Kept.field-0-is
    c.in-Some-Kept.ensures.lit c.in-Some-Kept.ensures.range (sym c.is_sum_kept.ensures ∙ kept))
