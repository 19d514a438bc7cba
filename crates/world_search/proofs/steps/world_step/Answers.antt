use Rattle.std.proofs.Common.{◌≡◌, false, Some, inr, sym, ap, ◌∙◌}
use Rattle.cert_rules.specs.Listings.{listing_next}
use Rattle.world_search.specs.Walking.{place, expected}
use Rattle.world_search.proofs.Telling.{next_standing, keeps_goes, keeps_after, keeps_ends}
use Rattle.search_log.proofs.Logs.{log_memory, log_ok_as, log_as}
use Rattle.world_search.proofs.steps.world_step.Goals as goal

pub returns-in_err-family-clause-keeps : goal.returns-in_err-family-clause-keeps
returns-in_err-family-clause-keeps g c = λ from from_there.
    keeps_goes c.args.problem.now from (g.L.TreeLog.lines c.args.log.now) c.args.asker.now c.family_of.new.asker (expected c.args.walk.now) c.family_of.ensures.kept

pub returns-in_err-family-clause-log : goal.returns-in_err-family-clause-log
returns-in_err-family-clause-log g c = log_memory c.from_residual.result c.args.log.now (g.met.L.TreeLog.steady_stays c.args.log.now) (g.met.L.TreeLog.quiet_stays c.args.log.now) c.from_residual.ensures.1

pub returns-in_err-tell_world-clause-keeps : goal.returns-in_err-tell_world-clause-keeps
returns-in_err-tell_world-clause-keeps g c = λ from from_there.
    let p = c.args.problem.now in
    let t = c.args.table.now in
    let at : expected c.args.walk.now ≡ Some t = c.requires.at ∙ ap (λ m. Some m) c.requires.is in
    keeps_ends p from (g.L.TreeLog.lines c.args.log.now) (g.L.TreeLog.lines c.tell_world.new.log) c.args.asker.now c.tell_world.new.asker
    (expected c.args.walk.now) (Some t) (Some t) (expected c.args.walk.now) at at
    (keeps_after p from (g.L.TreeLog.lines c.args.log.now) (g.L.TreeLog.lines c.tell_world.new.log) c.args.asker.now c.family_of.new.asker c.tell_world.new.asker (Some t) (Some t) c.family_of.ensures.kept
    (c.in_err-tell_world.ensures.keeps from))

pub returns-in_err-tell_world-clause-log : goal.returns-in_err-tell_world-clause-log
returns-in_err-tell_world-clause-log g c = log_as _ c.from_residual-in_err-tell_world.result c.args.log.now c.tell_world.new.log c.from_residual-in_err-tell_world.ensures.1 c.in_err-tell_world.ensures.log

pub returns-clause-keeps : goal.returns-clause-keeps
returns-clause-keeps g c = λ from from_there.
    let p = c.args.problem.now in
    let t = c.args.table.now in
    let m = c.args.walk.now.path in
    let new = c.leave.new.walk in
    let at : expected c.args.walk.now ≡ Some t = c.requires.at ∙ ap (λ m. Some m) c.requires.is in
    let next : listing_next p from false m ≡ expected new = next_standing p from m (place new) new.stage false c.requires.node from_there (inr c.requires.full) c.leave.ensures.on in
    keeps_ends p from (g.L.TreeLog.lines c.args.log.now) (g.L.TreeLog.lines c.tell_world.new.log) c.args.asker.now c.tell_world.new.asker
    (expected c.args.walk.now) (Some t) (listing_next p from false t) (expected new) at (sym next ∙ ap (listing_next p from false) c.requires.is)
    (keeps_after p from (g.L.TreeLog.lines c.args.log.now) (g.L.TreeLog.lines c.tell_world.new.log) c.args.asker.now c.family_of.new.asker c.tell_world.new.asker (Some t) (listing_next p from false t)
    c.family_of.ensures.kept (c.in_ok-tell_world.ensures.keeps from))

pub returns-clause-log : goal.returns-clause-log
returns-clause-log g c = log_ok_as _ _ c.args.log.now c.tell_world.new.log c.in_ok-tell_world.ensures.log
