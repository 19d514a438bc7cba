use Rattle.std.proofs.Common.{ℕ, Bool, List, [], None, sym, ap, subst, ◌∙◌}
use Rattle.rcc5_core.specs.declared.Rel.{Rel}
use Rattle.world_search.specs.Searching.{SearchState}
use Rattle.world_search.specs.Logging.{KeepsOn}
use Rattle.trial_run.specs.Steps.{AreFound}
use Rattle.trial_run.specs.Searches.{WentPastWorld, CameToEnd, IsFurther}
use Rattle.world_search.specs.Told.{IsKeptIn}
use Rattle.trial_run.proofs.FoundLemmas.{found_none, found_world, found_all, world_fewer}
use Rattle.world_search.proofs.Told.{begun_kept, kept_on, told_to, if_told}
use Rattle.trial_run.proofs.listing.count_worlds.Goals as goal

pub worlds-init : goal.worlds-init
worlds-init g c = record {
  problem = ap (λ (s : SearchState). s.problem) c.requires.begun;
  from = ap (λ (s : SearchState). s.from) c.requires.begun;
  unbounded = ap (λ (s : SearchState). s.to) c.requires.begun;
  shape = c.requires.asker.shape;
  found = subst (λ (s : SearchState). AreFound c.args.problem.now s.at 0) (sym c.requires.begun) (found_none c.args.problem.now);
  kept = subst (λ (s : SearchState). IsKeptIn c.args.problem.now [] (g.L.TreeLog.lines c.args.log.now) (g.L.TreeLog.lines c.args.log.now) c.args.asker.now s.expects) (sym c.requires.begun)
      (begun_kept c.args.problem.now [] (g.L.TreeLog.lines c.args.log.now) c.args.asker.now c.requires.asker);
}

pub returns-then-not-found-clause-found : goal.returns-then-not-found-clause-found
returns-then-not-found-clause-found g c =
    let ended : CameToEnd c.worlds.search c.finds_next.new.search =
    subst (λ (b : Bool). IsFurther c.worlds.search c.finds_next.new.search b) c.if-not-found.true c.in_ok-found.ensures.further in
    found_all c.args.problem.now c.worlds.search c.finds_next.new.search c.worlds.count c.worlds.invariant.problem ended c.worlds.invariant.found

pub returns-then-not-found-clause-told : goal.returns-then-not-found-clause-told
returns-then-not-found-clause-told g c =
    let ended : CameToEnd c.worlds.search c.finds_next.new.search =
    subst (λ (b : Bool). IsFurther c.worlds.search c.finds_next.new.search b) c.if-not-found.true c.in_ok-found.ensures.further in
    told_to c.args.problem.now [] (g.L.TreeLog.lines c.args.log.now) (g.L.TreeLog.lines c.worlds.log) (g.L.TreeLog.lines c.finds_next.new.log) c.worlds.asker c.finds_next.new.asker c.worlds.search.expects c.finds_next.new.search.expects None
    c.worlds.invariant.kept c.in_ok-found.ensures.told
    (subst (λ (from : List Rel). KeepsOn c.args.problem.now from (g.L.TreeLog.lines c.worlds.log) (g.L.TreeLog.lines c.finds_next.new.log) c.worlds.asker c.finds_next.new.asker c.worlds.search.expects c.finds_next.new.search.expects) c.worlds.invariant.from
    c.in_ok-found.ensures.keeps)
    c.in_ok-found.ensures.none_waits (if_told (g.L.TreeLog.lines c.worlds.log) _ ended.none_next)

pub worlds-smaller : goal.worlds-smaller
worlds-smaller g c =
    let went : WentPastWorld c.worlds.search c.finds_next.new.search =
    subst (λ (b : Bool). IsFurther c.worlds.search c.finds_next.new.search b) c.if-not-found.false c.in_ok-found.ensures.further in
    world_fewer c.args.problem.now c.facts.ensures.built.valid c.worlds.search c.finds_next.new.search c.worlds.invariant.problem went

pub worlds-preserved : goal.worlds-preserved
worlds-preserved g c =
    let went : WentPastWorld c.worlds.search c.finds_next.new.search =
    subst (λ (b : Bool). IsFurther c.worlds.search c.finds_next.new.search b) c.if-not-found.false c.in_ok-found.ensures.further in
    record {
      problem = c.in_ok-found.ensures.problem ∙ c.worlds.invariant.problem;
      from = c.in_ok-found.ensures.from ∙ c.worlds.invariant.from;
      unbounded = c.in_ok-found.ensures.to ∙ c.worlds.invariant.unbounded;
      shape = c.in_ok-found.ensures.asker ∙ c.worlds.invariant.shape;
      found =
          subst (λ (count : ℕ). AreFound c.args.problem.now c.finds_next.new.search.at count) (sym c.saturating_add-count.ensures)
          (found_world c.args.problem.now c.worlds.search c.finds_next.new.search c.worlds.count c.worlds.invariant.problem went c.worlds.invariant.found);
      kept =
          kept_on c.args.problem.now [] (g.L.TreeLog.lines c.args.log.now) (g.L.TreeLog.lines c.worlds.log) (g.L.TreeLog.lines c.finds_next.new.log) c.worlds.asker c.finds_next.new.asker c.worlds.search.expects c.finds_next.new.search.expects
          c.worlds.invariant.kept c.in_ok-found.ensures.told
          (subst (λ (from : List Rel). KeepsOn c.args.problem.now from (g.L.TreeLog.lines c.worlds.log) (g.L.TreeLog.lines c.finds_next.new.log) c.worlds.asker c.finds_next.new.asker c.worlds.search.expects c.finds_next.new.search.expects) c.worlds.invariant.from
          c.in_ok-found.ensures.keeps);
    }
