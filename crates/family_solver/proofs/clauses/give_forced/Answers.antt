use Rattle.std.proofs.Common.{◌≡◌, true, sym, ap, ◌∙◌, subst}
use Rattle.rcc5_core.specs.Region.{forced_regions, same_word, word_at}
use Rattle.rcc5_core.specs.declared.Occupancy.TheVariants.{Occupied}
use Rattle.world_model.specs.Alive.{allowed}
use Rattle.world_model.specs.Node.{pair_at}
use Rattle.family_solver.specs.Showing.{IsSoOrSeen}
use Rattle.family_solver.proofs.Ruling.{forced_is_seen}
use Rattle.family_solver.proofs.clauses.give_forced.Goals as goal

pub give_region-requires-clause-so : goal.give_region-requires-clause-so
give_region-requires-clause-so c =
    let p = c.args.problem.now in
    let word : same_word (word_at (forced_regions (allowed p (pair_at p c.args.pair))) c.args.region) Occupied ≡ true =
    ap (λ w. same_word w Occupied) (sym (c.at.ensures ∙ ap (λ r. word_at r c.args.region) (c.forced.ensures ∙ ap forced_regions c.allowed.ensures))) ∙ sym c.is_occupied.ensures ∙ c.if-is_occupied.true in
    subst (λ pair. IsSoOrSeen p c.args.ground.now c.new-lits.result.items pair c.args.region) (sym c.pair_at.ensures.value)
    (forced_is_seen p c.args.ground.now c.new-lits.result.items (pair_at p c.args.pair) c.args.region word)
