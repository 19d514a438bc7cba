use Rattle.std.proofs.Common.{◌≡◌, ℕ, Bool, true, false, not, ◌||◌, List, get_or, sym, ap, ◌∙◌}
use Rattle.std.proofs.lemmas.List.Folds.{list_any_at, list_any_more}
use Rattle.rcc5_core.specs.declared.Rel.{Rel}
use Rattle.rcc5_core.specs.Relation.{same_rel}
use Rattle.world_model.specs.Listing.{rel_at}
use Rattle.trial_run.proofs.SummaryLemmas.{rel_got}
use Rattle.trial_run.proofs.summary.differs.Goals as goal

-- whether a world has another relation at a place
abbrev has_other : ℕ → Rel → List Rel → Bool
has_other place rel world = not (same_rel (rel_at world place) rel)

pub returns-then-not-is_same : goal.returns-then-not-is_same
returns-then-not-is_same c =
    let here : has_other c.args.place c.args.rel c.world-item.result ≡ true =
    ap (λ (r : Rel). not (same_rel r c.args.rel)) (rel_got c.world-item.result c.args.place c.at.result c.at.ensures) ∙ ap not (sym c.is_same.ensures ∙ c.if-not-is_same.true) in
    sym (list_any_at (has_other c.args.place c.args.rel) c.args.worlds.now c.loop-world.world-index c.world-item.result c.loop-world-test.true
    (ap (has_other c.args.place c.args.rel) (sym c.world-item.is) ∙ here))

pub loop-world-preserved : goal.loop-world-preserved
loop-world-preserved c =
    let test = has_other c.args.place c.args.rel in
    let here : test c.world-item.result ≡ false =
    ap (λ (r : Rel). not (same_rel r c.args.rel)) (rel_got c.world-item.result c.args.place c.at.result c.at.ensures) ∙ ap not (sym c.is_same.ensures ∙ c.if-not-is_same.false) in
    list_any_more test c.args.worlds.now c.loop-world.world-index c.world-item.result c.loop-world-test.true
    ∙ ap (λ (b : Bool). b || test (get_or c.args.worlds.now c.loop-world.world-index c.world-item.result)) c.loop-world.invariant
    ∙ ap test (sym c.world-item.is) ∙ here
