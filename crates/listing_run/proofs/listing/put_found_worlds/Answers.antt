use Rattle.std.proofs.Common.{rules, ℕ, ◌≡◌, ◌≢◌, ◌∙◌, [], ◌∷◌, Some, Err, refl, ap, sym, subst}
use Rattle.outer_store.specs.Faults.{Rose, IfFailed}
use Rattle.listing_run.specs.Plans.{stop_place}
use Rattle.listing_run.specs.Putting.{IsPutTo, IsPastAll}
use Rattle.world_search.specs.Told.{IsKeptIn}
use Rattle.listing_run.specs.declared.listing.Met.{Met}
use Rattle.listing_run.specs.declared.plan.Stop.TheVariants.{Cut, End}
use Rattle.world_search.specs.Searching.{SearchState, Came, IsNext}
use Rattle.world_search.specs.Steps.{StandsBehind}
use Rattle.world_search.specs.Logging.{KeepsOn}
use Rattle.listing_run.proofs.ListingLemmas.{put_nothing, put_one_more, put_cut, put_end_met, put_stopped, partly_so_far, partly_refused}
use Rattle.world_search.proofs.WorldsLeft.{came_fewer}
use Rattle.world_search.proofs.Told.{begun_kept, kept_on, told_to}
use Rattle.listing_run.proofs.LoggedLemmas.{log_rests, log_twice, log_ok_as, listed_well, log_refused, put_refused}
use Rattle.listing_run.proofs.listing.put_found_worlds.Goals as goal

pub worlds-init : goal.worlds-init
worlds-init g c =
    let plan = c.args.plan.now in
    record {
      asked = record {
        problem = ap (λ (s : SearchState). s.problem) c.requires.begun;
        from = ap (λ (s : SearchState). s.from) c.requires.begun;
        to = ap (λ (s : SearchState). s.to) c.requires.begun;
        shape = c.requires.fresh.shape;
      };
      put = subst (λ (s : SearchState). IsPutTo plan s.at (g.W.Sink.state c.args.out.now).bytes (g.W.Sink.state c.args.out.now).bytes 0 plan.nodes plan.worlds) (sym c.requires.begun)
          (put_nothing plan (g.W.Sink.state c.args.out.now).bytes);
      faults = refl;
      kept = subst (λ (s : SearchState). IsKeptIn plan.problem plan.start (g.L.TreeLog.lines c.args.log.now) (g.L.TreeLog.lines c.args.log.now) c.args.asker.now s.expects) (sym c.requires.begun)
          (begun_kept plan.problem plan.start (g.L.TreeLog.lines c.args.log.now) c.args.asker.now c.requires.fresh);
      log = log_rests (tt {0}) c.args.log.now (g.met.L.TreeLog.steady_stays c.args.log.now) (g.met.L.TreeLog.quiet_stays c.args.log.now);
    }

pub returns-in_err-table : goal.returns-in_err-table
returns-in_err-table g c =
    log_refused Met _ c.from_residual.result c.args.plan.now
    (g.W.Sink.state c.args.out.now) (g.W.Sink.state c.worlds.out) c.args.log.now c.next_met.new.log
    c.from_residual.ensures.1
    (partly_so_far c.args.plan.now c.facts.ensures.built.valid c.worlds.search.at (g.W.Sink.state c.args.out.now).bytes (g.W.Sink.state c.worlds.out).bytes c.worlds.count c.worlds.nodes.left c.worlds.worlds c.worlds.invariant.put)
    c.worlds.invariant.faults
    (log_twice _ _ c.args.log.now c.worlds.log c.next_met.new.log (g.met.L.TreeLog.steady_joins c.args.log.now c.worlds.log c.next_met.new.log) (g.met.L.TreeLog.quiet_joins c.args.log.now c.worlds.log c.next_met.new.log)
    c.worlds.invariant.log c.in_err-table.ensures.told.log)

pub returns-in_err-put_world-in-World : goal.returns-in_err-put_world-in-World
returns-in_err-put_world-in-World g c =
    let plan = c.args.plan.now in
    let asked = c.worlds.invariant.asked in
    let some : c.worlds.worlds ≢ Some 0 = λ e. let t = c.is_spent.ensures.1 e in cc in
    let met : Came c.worlds.search c.next_met.new.search c.worlds.nodes.left c.next_met.new.nodes.left (c.in-World.table ∷ []) × StandsBehind c.next_met.new.search c.in-World.table =
    rw c.in-World.is at c.in_ok-table.ensures.met.met in
    put_refused (Unit {0}) (Unit {0}) (tt {0}) c.in_err-put_world-in-World.field-0.0 c.from_residual-in_err-put_world-in-World.result plan
    (g.W.Sink.state c.args.out.now) (g.W.Sink.state c.put_world.new.out) c.args.log.now c.next_met.new.log
    c.from_residual-in_err-put_world-in-World.ensures.1
    (partly_refused plan c.facts.ensures.built.valid c.worlds.search c.next_met.new.search c.worlds.nodes.left c.next_met.new.nodes.left c.worlds.worlds c.in-World.table
    (g.W.Sink.state c.args.out.now).bytes (g.W.Sink.state c.worlds.out).bytes (g.W.Sink.state c.put_world.new.out).bytes c.worlds.count
    asked.problem asked.from asked.to c.worlds.invariant.put met.0 met.1 some c.in_err-put_world-in-World.ensures.err)
    (subst (λ (n : ℕ). IfFailed {T = Unit {0}} (Err c.in_err-put_world-in-World.field-0.0) (Rose n (g.W.Sink.state c.put_world.new.out).faults) ((g.W.Sink.state c.put_world.new.out).faults ≡ n)) c.worlds.invariant.faults
    c.in_err-put_world-in-World.ensures.cause)
    (log_ok_as _ (tt {0}) c.args.log.now c.next_met.new.log
    (log_twice _ _ c.args.log.now c.worlds.log c.next_met.new.log (g.met.L.TreeLog.steady_joins c.args.log.now c.worlds.log c.next_met.new.log) (g.met.L.TreeLog.quiet_joins c.args.log.now c.worlds.log c.next_met.new.log)
    c.worlds.invariant.log c.in_ok-table.ensures.told.log))
    (search rules)

pub worlds-smaller : goal.worlds-smaller
worlds-smaller g c =
    let met : Came c.worlds.search c.next_met.new.search c.worlds.nodes.left c.next_met.new.nodes.left (c.in-World.table ∷ []) × StandsBehind c.next_met.new.search c.in-World.table =
    rw c.in-World.is at c.in_ok-table.ensures.met.met in
    came_fewer c.args.plan.now.problem c.facts.ensures.built.valid c.worlds.search c.next_met.new.search c.worlds.nodes.left c.next_met.new.nodes.left c.in-World.table
    c.worlds.invariant.asked.problem met.0

pub worlds-preserved : goal.worlds-preserved
worlds-preserved g c =
    let plan = c.args.plan.now in
    let asked = c.worlds.invariant.asked in
    let told = c.in_ok-table.ensures.told in
    let some : c.worlds.worlds ≢ Some 0 = λ e. let t = c.is_spent.ensures.1 e in cc in
    let met : Came c.worlds.search c.next_met.new.search c.worlds.nodes.left c.next_met.new.nodes.left (c.in-World.table ∷ []) × StandsBehind c.next_met.new.search c.in-World.table =
    rw c.in-World.is at c.in_ok-table.ensures.met.met in
    record {
      asked = record {
        problem = met.0.problem ∙ asked.problem;
        from = met.0.from ∙ asked.from;
        to = met.0.to ∙ asked.to;
        shape = c.in_ok-table.ensures.met.shape ∙ asked.shape;
      };
      put =
          subst (λ count. IsPutTo plan c.next_met.new.search.at (g.W.Sink.state c.args.out.now).bytes (g.W.Sink.state c.put_world.new.out).bytes count c.next_met.new.nodes.left c.one_less-worlds.result)
          (sym c.saturating_add-count.ensures)
          (put_one_more plan c.facts.ensures.built.valid c.worlds.search c.next_met.new.search c.worlds.nodes.left c.next_met.new.nodes.left c.worlds.worlds c.one_less-worlds.result c.in-World.table
          (g.W.Sink.state c.args.out.now).bytes (g.W.Sink.state c.worlds.out).bytes (g.W.Sink.state c.put_world.new.out).bytes c.worlds.count
          asked.problem asked.from asked.to c.worlds.invariant.put met.0 met.1 some c.one_less-worlds.ensures c.in_ok-put_world-in-World.ensures.ok);
      faults = search rules;
      kept =
          kept_on plan.problem plan.start (g.L.TreeLog.lines c.args.log.now) (g.L.TreeLog.lines c.worlds.log) (g.L.TreeLog.lines c.next_met.new.log) c.worlds.asker c.next_met.new.asker c.worlds.search.expects c.next_met.new.search.expects
          c.worlds.invariant.kept told.told
          (subst (λ from. KeepsOn plan.problem from (g.L.TreeLog.lines c.worlds.log) (g.L.TreeLog.lines c.next_met.new.log) c.worlds.asker c.next_met.new.asker c.worlds.search.expects c.next_met.new.search.expects) asked.from told.keeps);
      log =
          log_ok_as _ _ c.args.log.now c.next_met.new.log
          (log_twice _ _ c.args.log.now c.worlds.log c.next_met.new.log (g.met.L.TreeLog.steady_joins c.args.log.now c.worlds.log c.next_met.new.log) (g.met.L.TreeLog.quiet_joins c.args.log.now c.worlds.log c.next_met.new.log)
          c.worlds.invariant.log told.log);
    }

pub returns-in-Cut : goal.returns-in-Cut
returns-in-Cut g c =
    let plan = c.args.plan.now in
    let asked = c.worlds.invariant.asked in
    let told = c.in_ok-table.ensures.told in
    let some : c.worlds.worlds ≢ Some 0 = λ e. let t = c.is_spent.ensures.1 e in cc in
    let met : Came c.worlds.search c.next_met.new.search c.worlds.nodes.left c.next_met.new.nodes.left [] × (c.next_met.new.nodes.left ≡ Some 0) × IsNext c.next_met.new.search c.in-Cut.node =
    rw c.in-Cut.is at c.in_ok-table.ensures.met.met in
    listed_well plan (record { count = c.worlds.count; stop = Cut c.in-Cut.node })
    (g.W.Sink.state c.args.out.now) (g.W.Sink.state c.worlds.out) c.args.log.now c.next_met.new.log
    (put_cut plan c.facts.ensures.built.valid c.worlds.search c.next_met.new.search c.worlds.nodes.left c.next_met.new.nodes.left c.worlds.worlds c.in-Cut.node
    (g.W.Sink.state c.args.out.now).bytes (g.W.Sink.state c.worlds.out).bytes c.worlds.count
    asked.problem asked.from asked.to some c.worlds.invariant.put met.0 met.1 met.2)
    (told_to plan.problem plan.start (g.L.TreeLog.lines c.args.log.now) (g.L.TreeLog.lines c.worlds.log) (g.L.TreeLog.lines c.next_met.new.log) c.worlds.asker c.next_met.new.asker c.worlds.search.expects c.next_met.new.search.expects (Some c.in-Cut.node)
    c.worlds.invariant.kept told.told
    (subst (λ from. KeepsOn plan.problem from (g.L.TreeLog.lines c.worlds.log) (g.L.TreeLog.lines c.next_met.new.log) c.worlds.asker c.next_met.new.asker c.worlds.search.expects c.next_met.new.search.expects) asked.from told.keeps)
    c.in_ok-table.ensures.met.none_waits (rw c.in-Cut.is at told.at))
    c.worlds.invariant.faults
    (log_ok_as _ _ c.args.log.now c.next_met.new.log
    (log_twice _ _ c.args.log.now c.worlds.log c.next_met.new.log (g.met.L.TreeLog.steady_joins c.args.log.now c.worlds.log c.next_met.new.log) (g.met.L.TreeLog.quiet_joins c.args.log.now c.worlds.log c.next_met.new.log)
    c.worlds.invariant.log told.log))

pub returns-in-End : goal.returns-in-End
returns-in-End g c =
    let plan = c.args.plan.now in
    let asked = c.worlds.invariant.asked in
    let told = c.in_ok-table.ensures.told in
    let some : c.worlds.worlds ≢ Some 0 = λ e. let t = c.is_spent.ensures.1 e in cc in
    let met : Came c.worlds.search c.next_met.new.search c.worlds.nodes.left c.next_met.new.nodes.left [] × IsPastAll c.next_met.new.search c.in-End.node =
    rw c.in-End.is at c.in_ok-table.ensures.met.met in
    listed_well plan (record { count = c.worlds.count; stop = End c.in-End.node })
    (g.W.Sink.state c.args.out.now) (g.W.Sink.state c.worlds.out) c.args.log.now c.next_met.new.log
    (put_end_met plan c.facts.ensures.built.valid c.worlds.search c.next_met.new.search c.worlds.nodes.left c.next_met.new.nodes.left c.worlds.worlds c.in-End.node
    (g.W.Sink.state c.args.out.now).bytes (g.W.Sink.state c.worlds.out).bytes c.worlds.count
    asked.problem asked.from asked.to some c.worlds.invariant.put met.0 met.1)
    (told_to plan.problem plan.start (g.L.TreeLog.lines c.args.log.now) (g.L.TreeLog.lines c.worlds.log) (g.L.TreeLog.lines c.next_met.new.log) c.worlds.asker c.next_met.new.asker c.worlds.search.expects c.next_met.new.search.expects c.in-End.node
    c.worlds.invariant.kept told.told
    (subst (λ from. KeepsOn plan.problem from (g.L.TreeLog.lines c.worlds.log) (g.L.TreeLog.lines c.next_met.new.log) c.worlds.asker c.next_met.new.asker c.worlds.search.expects c.next_met.new.search.expects) asked.from told.keeps)
    c.in_ok-table.ensures.met.none_waits (rw c.in-End.is at told.at))
    c.worlds.invariant.faults
    (log_ok_as _ _ c.args.log.now c.next_met.new.log
    (log_twice _ _ c.args.log.now c.worlds.log c.next_met.new.log (g.met.L.TreeLog.steady_joins c.args.log.now c.worlds.log c.next_met.new.log) (g.met.L.TreeLog.quiet_joins c.args.log.now c.worlds.log c.next_met.new.log)
    c.worlds.invariant.log told.log))

pub returns-in_err-stop : goal.returns-in_err-stop
returns-in_err-stop g c =
    log_refused _ _ c.from_residual-in_err-stop.result c.args.plan.now
    (g.W.Sink.state c.args.out.now) (g.W.Sink.state c.worlds.out) c.args.log.now c.put_stop.new.log
    c.from_residual-in_err-stop.ensures.1
    (partly_so_far c.args.plan.now c.facts.ensures.built.valid c.worlds.search.at (g.W.Sink.state c.args.out.now).bytes (g.W.Sink.state c.worlds.out).bytes c.worlds.count c.worlds.nodes.left c.worlds.worlds c.worlds.invariant.put)
    c.worlds.invariant.faults
    (log_twice _ _ c.args.log.now c.worlds.log c.put_stop.new.log (g.met.L.TreeLog.steady_joins c.args.log.now c.worlds.log c.put_stop.new.log) (g.met.L.TreeLog.quiet_joins c.args.log.now c.worlds.log c.put_stop.new.log)
    c.worlds.invariant.log c.in_err-stop.ensures.told.log)

pub returns : goal.returns
returns g c =
    let plan = c.args.plan.now in
    let asked = c.worlds.invariant.asked in
    let told = c.in_ok-stop.ensures.told in
    listed_well plan (record { count = c.worlds.count; stop = c.in_ok-stop.stop })
    (g.W.Sink.state c.args.out.now) (g.W.Sink.state c.worlds.out) c.args.log.now c.put_stop.new.log
    (put_stopped plan c.worlds.search c.put_stop.new.search c.worlds.nodes.left c.worlds.worlds c.in_ok-stop.stop (g.W.Sink.state c.args.out.now).bytes (g.W.Sink.state c.worlds.out).bytes c.worlds.count
    asked.problem asked.from asked.to (c.is_spent.ensures.0 (search rules)) c.worlds.invariant.put c.in_ok-stop.ensures.stop)
    (told_to plan.problem plan.start (g.L.TreeLog.lines c.args.log.now) (g.L.TreeLog.lines c.worlds.log) (g.L.TreeLog.lines c.put_stop.new.log) c.worlds.asker c.put_stop.new.asker c.worlds.search.expects c.put_stop.new.search.expects
    (stop_place c.in_ok-stop.stop)
    c.worlds.invariant.kept told.told
    (subst (λ from. KeepsOn plan.problem from (g.L.TreeLog.lines c.worlds.log) (g.L.TreeLog.lines c.put_stop.new.log) c.worlds.asker c.put_stop.new.asker c.worlds.search.expects c.put_stop.new.search.expects) asked.from told.keeps)
    c.in_ok-stop.ensures.none_waits told.at)
    c.worlds.invariant.faults
    (log_ok_as _ _ c.args.log.now c.put_stop.new.log
    (log_twice _ _ c.args.log.now c.worlds.log c.put_stop.new.log (g.met.L.TreeLog.steady_joins c.args.log.now c.worlds.log c.put_stop.new.log) (g.met.L.TreeLog.quiet_joins c.args.log.now c.worlds.log c.put_stop.new.log)
    c.worlds.invariant.log told.log))
