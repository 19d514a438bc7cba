use Rattle.std.proofs.Common.{[], Some, None, sym, ◌∙◌, refl, subst}
use Rattle.set_family.specs.Meeting.{IsMetBy}
use Rattle.split_search.specs.Walking.{IsTurn, KeepsTree, turn_next}
use Rattle.search_log.proofs.Logs.{log_stays_ok, log_memory, log_joins, log_ok_as, log_as, log_then_memory}
use Rattle.search_log.proofs.Leading.{led_still, led_joins, led_after, led_before}
use Rattle.split_search.proofs.Told.{keeps_same, keeps_before}
use Rattle.split_search.proofs.Turns.{over_turn, met_choice, none_meets, none_before, falls_on}
use Rattle.split_search.proofs.Whole.{NoTables, no_tables_first}
use Rattle.split_search.proofs.Within.{choice_err}
use Rattle.split_search.proofs.search.search.Goals as goal

pub returns-in_err-walk-clause-keeps : goal.returns-in_err-walk-clause-keeps
returns-in_err-walk-clause-keeps g c =
    choice_err _ c.from_residual.result c.args.problem.now (g.L.TreeLog.lines c.args.log.now) (g.L.TreeLog.lines c.args.log.now) c.args.asker.now c.args.asker.now (Some []) c.from_residual.ensures.1
    (keeps_same c.args.problem.now (g.L.TreeLog.lines c.args.log.now) c.args.asker.now (Some []))

pub returns-in_err-walk-clause-log : goal.returns-in_err-walk-clause-log
returns-in_err-walk-clause-log g c =
    log_memory c.from_residual.result c.args.log.now (g.met.L.TreeLog.steady_stays c.args.log.now) (g.met.L.TreeLog.quiet_stays c.args.log.now) c.from_residual.ensures.1

pub nodes-init : goal.nodes-init
nodes-init g c =
    let q = c.args.problem.now in
    record {
      built = c.facts.ensures.built;
      walk = c.in_ok-walk.ensures.walk;
      subject = c.in_ok-walk.ensures.subject;
      none = subst (λ m. NoTables q (Some m)) (sym c.in_ok-walk.ensures.root) (no_tables_first q);
      shape = refl;
      keeps = subst (λ m. KeepsTree q (g.L.TreeLog.lines c.args.log.now) (g.L.TreeLog.lines c.args.log.now) c.args.asker.now c.args.asker.now (Some []) (Some m)) (sym c.in_ok-walk.ensures.root) (keeps_same q (g.L.TreeLog.lines c.args.log.now) c.args.asker.now (Some []));
      leads = led_still (g.L.TreeLog.lines c.args.log.now) c.args.asker.now;
      log = log_stays_ok _ c.args.log.now (g.met.L.TreeLog.steady_stays c.args.log.now) (g.met.L.TreeLog.quiet_stays c.args.log.now);
    }

pub returns-in_err-turns-clause-keeps : goal.returns-in_err-turns-clause-keeps
returns-in_err-turns-clause-keeps g c =
    let q = c.args.problem.now in
    choice_err _ c.from_residual-in_err-turns.result q (g.L.TreeLog.lines c.args.log.now) (g.L.TreeLog.lines c.nodes.log) c.args.asker.now c.tidy_by_turns.new.asker (Some c.nodes.walk.path) c.from_residual-in_err-turns.ensures.1
    (keeps_before q (g.L.TreeLog.lines c.args.log.now) (g.L.TreeLog.lines c.nodes.log) c.args.asker.now c.nodes.asker c.tidy_by_turns.new.asker (Some []) (Some c.nodes.walk.path) c.nodes.invariant.keeps c.tidy_by_turns.ensures.kept)

pub returns-in_err-turns-clause-log : goal.returns-in_err-turns-clause-log
returns-in_err-turns-clause-log g c =
    log_then_memory _ c.from_residual-in_err-turns.result c.args.log.now c.nodes.log c.from_residual-in_err-turns.ensures.1 c.nodes.invariant.log

pub returns-in_err-family-clause-keeps : goal.returns-in_err-family-clause-keeps
returns-in_err-family-clause-keeps g c =
    let q = c.args.problem.now in
    let k = c.in_err-family.ensures.err in
    choice_err _ c.from_residual-in_err-family.result q (g.L.TreeLog.lines c.args.log.now) (g.L.TreeLog.lines c.take_turn.new.log) c.args.asker.now c.take_turn.new.asker k.0 c.from_residual-in_err-family.ensures.1
    (over_turn c.args.problem.now c.nodes.walk.subject (g.L.TreeLog.lines c.args.log.now) (g.L.TreeLog.lines c.nodes.log) (g.L.TreeLog.lines c.take_turn.new.log) c.args.asker.now c.nodes.asker c.tidy_by_turns.new.asker c.take_turn.new.asker
    c.nodes.walk.path (k.0) c.nodes.invariant.subject c.nodes.invariant.log.told c.nodes.invariant.keeps c.tidy_by_turns.ensures.kept
    (k.1))

pub returns-in_err-family-clause-log : goal.returns-in_err-family-clause-log
returns-in_err-family-clause-log g c =
    log_as _ c.from_residual-in_err-family.result c.args.log.now c.take_turn.new.log c.from_residual-in_err-family.ensures.1 (log_joins _ _ c.args.log.now c.nodes.log c.take_turn.new.log (g.met.L.TreeLog.steady_joins c.args.log.now c.nodes.log c.take_turn.new.log) (g.met.L.TreeLog.quiet_joins c.args.log.now c.nodes.log c.take_turn.new.log) c.nodes.invariant.log c.in_err-family.ensures.log)

pub returns-in-Met-clause-answer : goal.returns-in-Met-clause-answer
returns-in-Met-clause-answer g c =
    subst (λ q. IsMetBy q c.in-Met.family) c.nodes.invariant.subject (subst (IsTurn c.nodes.walk.subject c.nodes.walk.path c.take_turn.new.walk.path) c.in-Met.is c.in_ok-family.ensures.found)

pub returns-in-Met-clause-keeps : goal.returns-in-Met-clause-keeps
returns-in-Met-clause-keeps g c =
    met_choice c.in-Met.family c.args.problem.now (g.L.TreeLog.lines c.args.log.now) (g.L.TreeLog.lines c.take_turn.new.log) c.args.asker.now c.take_turn.new.asker (Some c.nodes.walk.path)
    (over_turn c.args.problem.now c.nodes.walk.subject (g.L.TreeLog.lines c.args.log.now) (g.L.TreeLog.lines c.nodes.log) (g.L.TreeLog.lines c.take_turn.new.log) c.args.asker.now c.nodes.asker c.tidy_by_turns.new.asker c.take_turn.new.asker
    c.nodes.walk.path (Some c.nodes.walk.path) c.nodes.invariant.subject c.nodes.invariant.log.told c.nodes.invariant.keeps c.tidy_by_turns.ensures.kept
    (subst (λ t. KeepsTree c.nodes.walk.subject (g.L.TreeLog.lines c.nodes.log) (g.L.TreeLog.lines c.take_turn.new.log) c.tidy_by_turns.new.asker c.take_turn.new.asker (Some c.nodes.walk.path) (turn_next c.nodes.walk.path c.take_turn.new.walk.path t)) c.in-Met.is c.in_ok-family.ensures.keeps))

pub returns-in-Met-clause-log : goal.returns-in-Met-clause-log
returns-in-Met-clause-log g c =
    log_ok_as _ _ c.args.log.now c.take_turn.new.log (log_joins _ _ c.args.log.now c.nodes.log c.take_turn.new.log (g.met.L.TreeLog.steady_joins c.args.log.now c.nodes.log c.take_turn.new.log) (g.met.L.TreeLog.quiet_joins c.args.log.now c.nodes.log c.take_turn.new.log) c.nodes.invariant.log c.in_ok-family.ensures.log)

pub returns-in-Done-clause-answer : goal.returns-in-Done-clause-answer
returns-in-Done-clause-answer g c =
    none_meets c.args.problem.now c.nodes.walk.subject c.nodes.walk.path c.take_turn.new.walk.path c.nodes.invariant.built c.nodes.invariant.subject c.nodes.invariant.none
    (subst (IsTurn c.nodes.walk.subject c.nodes.walk.path c.take_turn.new.walk.path) c.in-Done.is c.in_ok-family.ensures.found)

pub returns-in-Done-clause-keeps : goal.returns-in-Done-clause-keeps
returns-in-Done-clause-keeps g c =
    over_turn c.args.problem.now c.nodes.walk.subject (g.L.TreeLog.lines c.args.log.now) (g.L.TreeLog.lines c.nodes.log) (g.L.TreeLog.lines c.take_turn.new.log) c.args.asker.now c.nodes.asker c.tidy_by_turns.new.asker c.take_turn.new.asker
    c.nodes.walk.path (None) c.nodes.invariant.subject c.nodes.invariant.log.told c.nodes.invariant.keeps c.tidy_by_turns.ensures.kept
    (subst (λ t. KeepsTree c.nodes.walk.subject (g.L.TreeLog.lines c.nodes.log) (g.L.TreeLog.lines c.take_turn.new.log) c.tidy_by_turns.new.asker c.take_turn.new.asker (Some c.nodes.walk.path) (turn_next c.nodes.walk.path c.take_turn.new.walk.path t)) c.in-Done.is c.in_ok-family.ensures.keeps)

pub returns-in-Done-clause-log : goal.returns-in-Done-clause-log
returns-in-Done-clause-log g c =
    log_ok_as _ _ c.args.log.now c.take_turn.new.log (log_joins _ _ c.args.log.now c.nodes.log c.take_turn.new.log (g.met.L.TreeLog.steady_joins c.args.log.now c.nodes.log c.take_turn.new.log) (g.met.L.TreeLog.quiet_joins c.args.log.now c.nodes.log c.take_turn.new.log) c.nodes.invariant.log c.in_ok-family.ensures.log)

pub nodes-smaller : goal.nodes-smaller
nodes-smaller g c =
    falls_on c.args.problem.now c.nodes.walk c.take_turn.new.walk c.nodes.invariant.walk c.in_ok-family.ensures.walk c.nodes.invariant.subject c.in_ok-family.ensures.subject
    (subst (IsTurn c.nodes.walk.subject c.nodes.walk.path c.take_turn.new.walk.path) c.in-On.is c.in_ok-family.ensures.found)

pub nodes-preserved : goal.nodes-preserved
nodes-preserved g c =
    record {
      built = c.nodes.invariant.built;
      walk = c.in_ok-family.ensures.walk;
      subject = c.in_ok-family.ensures.subject ∙ c.nodes.invariant.subject;
      none = none_before c.args.problem.now c.nodes.walk.subject c.nodes.walk.path c.take_turn.new.walk.path c.nodes.invariant.built c.nodes.invariant.subject c.nodes.invariant.none (subst (IsTurn c.nodes.walk.subject c.nodes.walk.path c.take_turn.new.walk.path) c.in-On.is c.in_ok-family.ensures.found);
      shape = c.take_turn.ensures.shape ∙ c.tidy_by_turns.ensures.kept.shape ∙ c.nodes.invariant.shape;
      keeps =
          over_turn c.args.problem.now c.nodes.walk.subject (g.L.TreeLog.lines c.args.log.now) (g.L.TreeLog.lines c.nodes.log) (g.L.TreeLog.lines c.take_turn.new.log) c.args.asker.now c.nodes.asker c.tidy_by_turns.new.asker c.take_turn.new.asker
          c.nodes.walk.path (Some c.take_turn.new.walk.path) c.nodes.invariant.subject c.nodes.invariant.log.told c.nodes.invariant.keeps c.tidy_by_turns.ensures.kept
          (subst (λ t. KeepsTree c.nodes.walk.subject (g.L.TreeLog.lines c.nodes.log) (g.L.TreeLog.lines c.take_turn.new.log) c.tidy_by_turns.new.asker c.take_turn.new.asker (Some c.nodes.walk.path) (turn_next c.nodes.walk.path c.take_turn.new.walk.path t)) c.in-On.is c.in_ok-family.ensures.keeps);
      leads =
          led_joins (g.L.TreeLog.lines c.args.log.now) (g.L.TreeLog.lines c.nodes.log) (g.L.TreeLog.lines c.take_turn.new.log) c.args.asker.now c.nodes.asker c.take_turn.new.asker c.nodes.invariant.log.told c.nodes.invariant.leads
          (led_after (g.L.TreeLog.lines c.nodes.log) (g.L.TreeLog.lines c.take_turn.new.log) c.nodes.asker c.tidy_by_turns.new.asker c.take_turn.new.asker c.tidy_by_turns.ensures.kept c.take_turn.ensures.leads);
      log = log_ok_as _ _ c.args.log.now c.take_turn.new.log (log_joins _ _ c.args.log.now c.nodes.log c.take_turn.new.log (g.met.L.TreeLog.steady_joins c.args.log.now c.nodes.log c.take_turn.new.log) (g.met.L.TreeLog.quiet_joins c.args.log.now c.nodes.log c.take_turn.new.log) c.nodes.invariant.log c.in_ok-family.ensures.log);
    }

pub returns-in_err-walk-clause-leads : goal.returns-in_err-walk-clause-leads
returns-in_err-walk-clause-leads g c =
    led_still (g.L.TreeLog.lines c.args.log.now) c.args.asker.now

pub returns-in_err-turns-clause-leads : goal.returns-in_err-turns-clause-leads
returns-in_err-turns-clause-leads g c =
    led_before (g.L.TreeLog.lines c.args.log.now) (g.L.TreeLog.lines c.nodes.log) c.args.asker.now c.nodes.asker c.tidy_by_turns.new.asker c.nodes.invariant.leads c.tidy_by_turns.ensures.kept

pub returns-in_err-family-clause-leads : goal.returns-in_err-family-clause-leads
returns-in_err-family-clause-leads g c =
    led_joins (g.L.TreeLog.lines c.args.log.now) (g.L.TreeLog.lines c.nodes.log) (g.L.TreeLog.lines c.take_turn.new.log) c.args.asker.now c.nodes.asker c.take_turn.new.asker c.nodes.invariant.log.told c.nodes.invariant.leads
    (led_after (g.L.TreeLog.lines c.nodes.log) (g.L.TreeLog.lines c.take_turn.new.log) c.nodes.asker c.tidy_by_turns.new.asker c.take_turn.new.asker c.tidy_by_turns.ensures.kept c.take_turn.ensures.leads)

pub returns-in-Met-clause-leads : goal.returns-in-Met-clause-leads
returns-in-Met-clause-leads g c =
    led_joins (g.L.TreeLog.lines c.args.log.now) (g.L.TreeLog.lines c.nodes.log) (g.L.TreeLog.lines c.take_turn.new.log) c.args.asker.now c.nodes.asker c.take_turn.new.asker c.nodes.invariant.log.told c.nodes.invariant.leads
    (led_after (g.L.TreeLog.lines c.nodes.log) (g.L.TreeLog.lines c.take_turn.new.log) c.nodes.asker c.tidy_by_turns.new.asker c.take_turn.new.asker c.tidy_by_turns.ensures.kept c.take_turn.ensures.leads)

pub returns-in-Done-clause-leads : goal.returns-in-Done-clause-leads
returns-in-Done-clause-leads g c =
    led_joins (g.L.TreeLog.lines c.args.log.now) (g.L.TreeLog.lines c.nodes.log) (g.L.TreeLog.lines c.take_turn.new.log) c.args.asker.now c.nodes.asker c.take_turn.new.asker c.nodes.invariant.log.told c.nodes.invariant.leads
    (led_after (g.L.TreeLog.lines c.nodes.log) (g.L.TreeLog.lines c.take_turn.new.log) c.nodes.asker c.tidy_by_turns.new.asker c.take_turn.new.asker c.tidy_by_turns.ensures.kept c.take_turn.ensures.leads)
