use Rattle.std.proofs.Common.{◌≡◌, ◌∙◌, [], ap, refl, sym, subst}
use Rattle.world_model.specs.Points.{forced_at}
use Rattle.world_model.proofs.PointOnce.{at_empty}
use Rattle.point_encode.specs.Selectors.{IsSelector, selector_lit}
use Rattle.point_encode.specs.declared.asked.Selector.TheVariants.{Empty, Kept}
use Rattle.point_encode.proofs.Selected.{empty_selected, kept_selected}
use Rattle.dead_pairs.specs.Lone.{lone_problem}
use Rattle.dead_pairs.proofs.closes.is_selector.Goals as goal

pub returns-in-Some-Empty : goal.returns-in-Some-Empty
returns-in-Some-Empty c = λ yes.
    let p = c.args.problem.now in
    let q = lone_problem p c.args.lone in
    let k = c.in-Some-Empty.pair in
    let lit = subst (λ found. selector_lit p found ≡ c.args.lit) c.in-Some-Empty.field-0-is c.in-Some-Empty.ensures.lit in
    let range = subst (IsSelector p) c.in-Some-Empty.field-0-is c.in-Some-Empty.ensures.range in
    let here = c.forced_at.ensures ∙ ap (λ x. forced_at x k) (sym (at_empty q)) in
    empty_selected q [] (Empty k c.in-Some-Empty.part) k c.in-Some-Empty.part c.args.lit c.forced_at.result refl lit range here (sym c.is_empty.ensures ∙ yes)

pub returns-in-Some-Kept : goal.returns-in-Some-Kept
returns-in-Some-Kept c = λ kept.
    let p = c.args.problem.now in
    let lit = subst (λ found. selector_lit p found ≡ c.args.lit) c.in-Some-Kept.field-0-is c.in-Some-Kept.ensures.lit in
    let range = subst (IsSelector p) c.in-Some-Kept.field-0-is c.in-Some-Kept.ensures.range in
    kept_selected (lone_problem p c.args.lone) [] (Kept c.in-Some-Kept.sum) c.in-Some-Kept.sum c.args.lit refl lit range (sym c.is_sum_kept.ensures ∙ kept)
