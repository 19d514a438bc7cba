use Rattle.std.proofs.Common.{◌≡◌, ℕ, ◌-◌, ◌+◌, ◌≤◌, length, take, sym, ap, ◌∙◌, subst, arith, rules}
use Rattle.std.proofs.lemmas.List.{get_or_default}
use Rattle.rcc5_core.specs.RelationSet.{no_rels}
use Rattle.world_walk.specs.declared.way.Level.{Level}
use Rattle.world_walk.specs.Ahead.{level_at, IsAhead}
use Rattle.world_walk.specs.Ways.{problem_of, LeadOn}
use Rattle.world_walk.proofs.WentOn.{leads_dropped}
use Rattle.world_walk.proofs.Barren.{drops_barren}
use Rattle.world_walk.proofs.retreat.drop_levels.Goals as goal

pub loop-way-preserved : goal.loop-way-preserved
loop-way-preserved c =
    let old = c.args.way.now in
    let p = problem_of old in
    let kept = c.loop-way.invariant in
    let levels = c.loop-way.way.levels.items in
    let k : ℕ = c.len-last.result - 1 in
    let sized : length levels ≡ k + 1 = omega arith in
    let level : c.index.result.now ≡ level_at levels k = c.index.ensures ∙ get_or_default levels k c.index.result.now (record { depth = 0; set = no_rels }) (omega arith) in
    let deep : c.args.len ≤ c.index.result.now.depth = search rules in
    let rest : c.pop.new.self.items ≡ take k levels = c.pop.ensures.rest ∙ ap (λ n. take n levels) (omega arith) in
    record {
      along = kept.along;
      waiting = kept.waiting;
      stage = kept.stage;
      ahead = subst (λ ls. IsAhead p old.along.path ls) (sym rest)
          (drops_barren p old.along.path levels k c.args.len sized (subst (λ (x : Level). c.args.len ≤ x.depth) level deep) kept.ahead c.requires.barren);
      leads = subst (λ ls. LeadOn p old.along.path ls) (sym rest) (leads_dropped p old.along.path levels k sized kept.leads);
    }
