use Rattle.std.proofs.Common.{◌&&◌, ◌+◌, drop, sym, ap, ◌∙◌, arith}
use Rattle.cert_rules.specs.Trees.{same_position}
use Rattle.cert_tree.proofs.PositionLemmas.{other_length, position_at}
use Rattle.cert_tree.proofs.relations.is_same_position.Goals as goal

pub returns-then-len : goal.returns-then-len
returns-then-len c = sym (other_length c.args.a.now c.args.b.now (λ same. absurd (omega (arith, same))))

pub returns-then-not-is_same : goal.returns-then-not-is_same
returns-then-not-is_same c =
    let k = c.loop-place.place in
    ap (λ b. b && same_position (drop (k + 1) c.args.a.now) (drop (k + 1) c.args.b.now)) (sym c.if-not-is_same.true ∙ c.is_same.ensures)
    ∙ sym (position_at c.args.a.now c.args.b.now k c.at.result c.at-in-loop-place.result c.at.ensures c.at-in-loop-place.ensures)
    ∙ c.loop-place.invariant

pub loop-place-preserved : goal.loop-place-preserved
loop-place-preserved c =
    let k = c.loop-place.place in
    ap (λ b. b && same_position (drop (k + 1) c.args.a.now) (drop (k + 1) c.args.b.now)) (sym c.if-not-is_same.false ∙ c.is_same.ensures)
    ∙ sym (position_at c.args.a.now c.args.b.now k c.at.result c.at-in-loop-place.result c.at.ensures c.at-in-loop-place.ensures)
    ∙ c.loop-place.invariant
