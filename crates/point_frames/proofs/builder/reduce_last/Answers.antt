use Rattle.std.proofs.Common.{◌-◌, ◌∙◌, sym, arith}
use Rattle.point_frames.proofs.Needs.{owing_popped, owing_single, place_within}
use Rattle.point_frames.proofs.builder.reduce_last.Goals as goal

pub returns-then-is_needless : goal.returns-then-is_needless
returns-then-is_needless c =
    let rows = c.args.rows.now in
    let three = c.requires.three in
    let last = c.count-last.result - 1 in
    owing_popped rows c.pop.new.self last c.pop.ensures (omega (arith, c.count-last.ensures, three)) (omega (arith, c.count-last.ensures, three)) (c.is_needless.ensures c.if-is_needless.true)

pub set-requires-clause-within : goal.set-requires-clause-within
set-requires-clause-within c = place_within c.row-row.result.now c.in-Some.place c.pop-2.new.self.width c.in-Some.ensures.there (c.row-row.ensures.width ∙ sym c.pop-2.ensures.width)

pub returns : goal.returns
returns c =
    let rows = c.args.rows.now in
    let three = c.requires.three in
    let last = c.count-last.result - 1 in
    owing_single rows c.pop-2.new.self c.set.new.self last c.in-Some.place c.pop-2.ensures (omega (arith, c.count-last.ensures, three)) (omega (arith, c.count-last.ensures, three))
    (sym (c.row-row.ensures.bits c.in-Some.place) ∙ c.in-Some.ensures.there)
    (λ k l one other. c.has_single.ensures c.if-not-has_single.false k l (c.row-row.ensures.bits k ∙ one) (c.row-row.ensures.bits l ∙ other))
    c.set.ensures
