use Rattle.std.proofs.Common.{◌≡◌, true, [], ◌∷◌, sym, ap, ◌∙◌, refl, subst, arith}
use Rattle.std.specs.Prelude.{Contains}
use Rattle.rcc5_core.specs.Region.{row_of, same_word, word_at}
use Rattle.rcc5_core.specs.declared.Occupancy.TheVariants.{Empty}
use Rattle.world_model.specs.Alive.{lies_in, point_at}
use Rattle.world_model.specs.Node.{pair_at}
use Rattle.family_solver.proofs.Ruling.{barred_true, same_default}
use Rattle.family_solver.proofs.relations.give_barred.Goals as goal

pub give-requires-clause-so : goal.give-requires-clause-so
give-requires-clause-so c =
    let p = c.args.problem.now in
    let g = c.args.ground.now in
    let pair = c.pair_at-pair.result in
    let lits = c.rel_lit.result ∷ c.new.result ∷ [] in
    let word : same_word (word_at (row_of c.args.rel) c.args.region) Empty ≡ true =
    ap (λ w. same_word w Empty) (sym (c.at.ensures ∙ ap (λ r. word_at r c.args.region) c.row.ensures)) ∙ sym c.is_empty.ensures ∙ c.if-is_empty.true in
    let lies : lies_in c.args.region pair (point_at g.points.items c.args.point) ≡ true = ap (lies_in c.args.region pair) (sym (c.index-then-is_empty.ensures ∙ same_default g.points.items c.args.point c.index-then-is_empty.result.now [] c.requires.point)) ∙ sym c.lies.ensures ∙ c.if-lies.true in
    let one = subst (Contains lits) c.rel_lit.ensures (0, omega arith, refl) in
    let two = subst (Contains lits) c.new.ensures (1, omega arith, refl) in
    let right = c.pair_at-pair.ensures.within in
    barred_true p g c.args.place c.args.rel c.args.region pair c.args.point lits c.requires.place (c.pair_at-pair.ensures.value ∙ ap (pair_at p) (c.index.ensures ∙ same_default g.pairs.items c.args.place c.index.result.now 0 c.requires.place)) (omega (arith, right, c.pair_at-pair.ensures.order)) right
    word c.requires.point lies one two
