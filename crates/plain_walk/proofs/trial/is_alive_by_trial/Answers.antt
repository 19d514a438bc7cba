use Rattle.std.proofs.Common.{ℕ, not, ap, ◌∙◌, sym, map}
use Rattle.std.specs.Prelude.{filter}
use Rattle.std.specs.List.{list_all}
use Rattle.rcc5_core.specs.declared.RelSet.{RelSet}
use Rattle.rcc5_core.specs.RelationSet.{is_empty_set}
use Rattle.rcc5_core.specs.Region.{forced_regions}
use Rattle.world_model.specs.Problem.{concept_count}
use Rattle.world_model.specs.Alive.{obeys}
use Rattle.world_model.specs.Trial.{bit_lists}
use Rattle.plain_walk.proofs.PlainPairs.{dead_by_sets, alive_by_sets}
use Rattle.plain_walk.proofs.trial.is_alive_by_trial.Goals as goal

pub returns-then-not-all_allow : goal.returns-then-not-all_allow
returns-then-not-all_allow c =
    dead_by_sets c.args.problem.now c.args.prefix.now c.in_ok-sets.sets.items c.in_ok-sets.ensures
    (sym (c.all_allow.ensures ∙ ap (list_all (λ (entry : (ℕ × ℕ) × RelSet). not (is_empty_set entry.1))) c.deref.ensures.value) ∙ c.if-not-all_allow.true)

pub returns : goal.returns
returns c =
    c.is_served.ensures ∙
    rw (c.deref-4.ensures.value, c.deref-5.ensures.value)
    (alive_by_sets c.args.problem.now c.args.prefix.now c.in_ok-sets.sets.items c.in_ok-forced.forced.items c.in_ok-points.points.items
    c.in_ok-sets.ensures
    (sym (c.all_allow.ensures ∙ ap (list_all (λ (entry : (ℕ × ℕ) × RelSet). not (is_empty_set entry.1))) c.deref.ensures.value) ∙ c.if-not-all_allow.false)
    (c.in_ok-forced.ensures ∙ ap (map (λ (entry : (ℕ × ℕ) × RelSet). (entry.0, forced_regions entry.1))) c.deref-2.ensures.value)
    (c.in_ok-points.ensures ∙ ap (λ fs. filter (obeys c.args.problem.now fs) (bit_lists (concept_count c.args.problem.now))) c.deref-3.ensures.value))
