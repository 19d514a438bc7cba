use Rattle.std.proofs.Common.{◌≡◌, ◌&&◌, ◌+◌, drop, Some, sym, ap, ◌∙◌, arith}
use Rattle.std.specs.Prelude.{slice_get}
use Rattle.cert_rules.specs.Trees.{same_position, table_along}
use Rattle.cert_tree.proofs.PositionLemmas.{other_length, position_at, table_length, table_at}
use Rattle.cert_tree.proofs.tree.Branching.is_table.Goals as goal

pub returns-then-len-depth_count : goal.returns-then-len-depth_count
returns-then-len-depth_count c =
    let counted = table_length c.args.self.now.levels c.args.family.now in
    sym (other_length (table_along c.args.self.now.levels c.args.family.now) c.args.path.now (λ same. absurd (omega (arith, same, counted))))

pub returns-then-not-is_same : goal.returns-then-not-is_same
returns-then-not-is_same c =
    let k = c.loop-depth.depth in
    let table = table_along c.args.self.now.levels c.args.family.now in
    let at : slice_get table k ≡ Some c.relation.result =
    table_at c.args.self.now.levels c.args.family.now k c.pair_of-left.result c.pair_of-left.ensures.pair ∙ ap Some (sym c.relation.ensures) in
    ap (λ b. b && same_position (drop (k + 1) table) (drop (k + 1) c.args.path.now)) (sym c.if-not-is_same.true ∙ c.is_same.ensures)
    ∙ sym (position_at table c.args.path.now k c.relation.result c.at.result at c.at.ensures)
    ∙ c.loop-depth.invariant

pub loop-depth-preserved : goal.loop-depth-preserved
loop-depth-preserved c =
    let k = c.loop-depth.depth in
    let table = table_along c.args.self.now.levels c.args.family.now in
    let at : slice_get table k ≡ Some c.relation.result =
    table_at c.args.self.now.levels c.args.family.now k c.pair_of-left.result c.pair_of-left.ensures.pair ∙ ap Some (sym c.relation.ensures) in
    ap (λ b. b && same_position (drop (k + 1) table) (drop (k + 1) c.args.path.now)) (sym c.if-not-is_same.false ∙ c.is_same.ensures)
    ∙ sym (position_at table c.args.path.now k c.relation.result c.at.result at c.at.ensures)
    ∙ c.loop-depth.invariant
