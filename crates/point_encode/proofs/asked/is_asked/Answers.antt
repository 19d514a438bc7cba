use Rattle.std.proofs.lemmas.List.Elements.{Contains-append_left, Contains-append_right}
use Rattle.point_encode.specs.Model.Forced.{selectors_of, need_lits}
use Rattle.point_encode.specs.Needs.{need_seen}
use Rattle.point_encode.proofs.asked.is_asked.Goals as goal

pub returns-then-is_selected : goal.returns-then-is_selected
returns-then-is_selected c = λ yes.
    let p = c.args.problem.now in
    Contains-append_left (selectors_of p c.args.prefix.now) (need_lits (need_seen p c.args.need)) c.args.lit (c.is_selected.ensures c.if-is_selected.true)

pub returns : goal.returns
returns c = λ yes.
    let p = c.args.problem.now in
    Contains-append_right (selectors_of p c.args.prefix.now) (need_lits (need_seen p c.args.need)) c.args.lit (c.is_need_lit.ensures yes)
