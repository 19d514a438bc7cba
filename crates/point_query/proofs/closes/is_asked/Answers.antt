use Rattle.std.proofs.Common.{◌∙◌, ap, subst}
use Rattle.std.specs.Prelude.{Contains}
use Rattle.std.proofs.lemmas.List.Elements.{Contains-append_left, Contains-append_right}
use Rattle.point_encode.specs.Model.Forced.{need_at, need_lits, selectors_of}
use Rattle.point_query.proofs.closes.is_asked.Goals as goal

pub returns-then-is_selector : goal.returns-then-is_selector
returns-then-is_selector c = λ yes.
    let p = c.args.cursor.now.problem in
    Contains-append_left (selectors_of p c.args.cursor.now.path) (need_lits (need_at p c.args.number)) c.args.lit (c.is_selector.ensures c.if-is_selector.true)

pub returns : goal.returns
returns c = λ yes.
    let p = c.args.cursor.now.problem in
    let is = c.need_at.ensures.value ∙ ap (λ q. need_at q c.args.number) c.problem-problem.ensures in
    Contains-append_right (selectors_of p c.args.cursor.now.path) (need_lits (need_at p c.args.number)) c.args.lit
    (subst (λ need. Contains (need_lits need) c.args.lit) is (c.is_need_lit.ensures yes))
