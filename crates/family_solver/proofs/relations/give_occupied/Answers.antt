use Rattle.std.proofs.Common.{◌≡◌, true, sym, ap, ◌∙◌, subst}
use Rattle.std.specs.Prelude.{Contains}
use Rattle.std.proofs.lemmas.List.Elements.{Contains-push}
use Rattle.rcc5_core.specs.Region.{row_of, same_word, word_at}
use Rattle.rcc5_core.specs.declared.Occupancy.TheVariants.{Occupied}
use Rattle.world_model.specs.Node.{pair_at}
use Rattle.family_solver.proofs.Ruling.{occupied_seen, same_default}
use Rattle.family_solver.proofs.relations.give_occupied.Goals as goal

pub give_region-requires-clause-so : goal.give_region-requires-clause-so
give_region-requires-clause-so c =
    let p = c.args.problem.now in
    let g = c.args.ground.now in
    let lits = c.push.new.self.items in
    let word : same_word (word_at (row_of c.args.rel) c.args.region) Occupied ≡ true =
    ap (λ w. same_word w Occupied) (sym (c.at.ensures ∙ ap (λ r. word_at r c.args.region) c.row.ensures)) ∙ sym c.is_occupied.ensures ∙ c.if-is_occupied.true in
    let there = subst (Contains lits) c.rel_lit.ensures (subst (λ ls. Contains ls c.rel_lit.result) (sym c.in_ok-push.ensures.items) (Contains-push c.new-lits.result.items c.rel_lit.result)) in
    occupied_seen p g c.args.place c.args.rel c.args.region c.pair_at-pair.result lits c.requires.place (c.pair_at-pair.ensures.value ∙ ap (pair_at p) (c.index.ensures ∙ same_default g.pairs.items c.args.place c.index.result.now 0 c.requires.place)) word there
