use Rattle.std.proofs.Common.{◌≡◌, ◌∙◌, [], ap, sym, subst, None}
use Rattle.std.specs.Prelude.{IfSome, IfNone}
use Rattle.world_walk.specs.Tables.{IsAtWorld}
use Rattle.world_walk.specs.Ways.{told_table}
use Rattle.report_run.proofs.ShowLemmas.{told_fewer, shown_told, shown_past}
use Rattle.report_run.proofs.showing.show_tables.Goals as goal

pub loop-world-smaller : goal.loop-world-smaller
loop-world-smaller g c =
    let at : IsAtWorld c.next.new.self = subst (λ o. IfSome o (λ _. IsAtWorld c.next.new.self)) c.in-Some.is c.in_ok-kept.ensures.world in
    told_fewer c.args.problem.now c.facts.ensures.built.valid c.loop-world.tables c.next.new.self c.loop-world.invariant.problem c.in_ok-kept.ensures.passed at

pub loop-world-preserved : goal.loop-world-preserved
loop-world-preserved g c = record {
  problem = c.in_ok-kept.ensures.passed.problem ∙ c.loop-world.invariant.problem;
  world_is = c.in_ok-rewrite.ensures ∙ sym (ap told_table c.table.ensures);
  shown =
      shown_told _ _ c.args.problem.now c.loop-world.tables c.next.new.self c.rewrite.new.world c.table.result.now c.args.watchers.now.items c.loop-world.watchers.items c.feed.new.watchers.items
      c.loop-world.count c.saturating_add-count.result c.loop-world.invariant.problem c.loop-world.invariant.shown c.in_ok-kept.ensures.passed c.table.ensures c.in_ok-rewrite.ensures c.in_ok-feed.ensures.ok
      c.saturating_add-count.ensures;
}

pub returns : goal.returns
returns g c =
    let end = subst (λ o. IfNone o ((c.next.new.self.at ≡ None) × (c.next.new.self.told ≡ []))) c.in_default.is c.in_ok-kept.ensures.end in
    shown_past _ _ c.args.problem.now c.loop-world.tables c.next.new.self c.args.watchers.now.items c.loop-world.watchers.items c.loop-world.count c.facts.ensures.built.valid
    c.loop-world.invariant.problem c.loop-world.invariant.shown c.in_ok-kept.ensures.passed end.0
