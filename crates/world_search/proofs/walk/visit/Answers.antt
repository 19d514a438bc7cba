use Rattle.std.proofs.Common.{true≢false, refl, sym, subst}
use Rattle.world_search.specs.Walking.{IsFoundAt, expected}
use Rattle.world_search.proofs.Telling.{keeps_goes, keeps_after}
use Rattle.search_log.proofs.Logs.{log_stays_ok, log_memory, log_ok_as, log_as}
use Rattle.world_search.proofs.walk.visit.Goals as goal

pub move_on-requires-clause-found : goal.move_on-requires-clause-found
move_on-requires-clause-found g c = (subst (IsFoundAt c.args.problem.now c.args.walk.now.path) c.in-NoWorld.is c.in_ok-look.ensures.found).0

pub returns-in_err-look-clause-keeps : goal.returns-in_err-look-clause-keeps
returns-in_err-look-clause-keeps g c = λ from from_there.
    keeps_goes c.args.problem.now from (g.L.TreeLog.lines c.args.log.now) c.args.asker.now c.look.new.asker (expected c.args.walk.now) c.look.ensures.kept

pub returns-in_err-look-clause-log : goal.returns-in_err-look-clause-log
returns-in_err-look-clause-log g c = log_memory c.from_residual.result c.args.log.now (g.met.L.TreeLog.steady_stays c.args.log.now) (g.met.L.TreeLog.quiet_stays c.args.log.now) c.from_residual.ensures.1

pub returns-in-World-clause-found : goal.returns-in-World-clause-found
returns-in-World-clause-found g c = (λ _. subst (IsFoundAt c.args.problem.now c.args.walk.now.path) c.in-World.is c.in_ok-look.ensures.found, λ _. refl)

pub returns-in-World-clause-keeps : goal.returns-in-World-clause-keeps
returns-in-World-clause-keeps g c = λ from from_there.
    keeps_goes c.args.problem.now from (g.L.TreeLog.lines c.args.log.now) c.args.asker.now c.look.new.asker (expected c.args.walk.now) c.look.ensures.kept

pub returns-in-World-clause-log : goal.returns-in-World-clause-log
returns-in-World-clause-log g c = log_stays_ok _ c.args.log.now (g.met.L.TreeLog.steady_stays c.args.log.now) (g.met.L.TreeLog.quiet_stays c.args.log.now)

pub returns-in_err-move_on-in-NoWorld-clause-keeps : goal.returns-in_err-move_on-in-NoWorld-clause-keeps
returns-in_err-move_on-in-NoWorld-clause-keeps g c = λ from from_there.
    keeps_after c.args.problem.now from (g.L.TreeLog.lines c.args.log.now) (g.L.TreeLog.lines c.move_on.new.log) c.args.asker.now c.look.new.asker c.move_on.new.asker
    (expected c.args.walk.now) (expected c.move_on.new.walk) c.look.ensures.kept (c.move_on.ensures.keeps from from_there)

pub returns-in_err-move_on-in-NoWorld-clause-log : goal.returns-in_err-move_on-in-NoWorld-clause-log
returns-in_err-move_on-in-NoWorld-clause-log g c = log_as _ c.from_residual-in_err-move_on-in-NoWorld.result c.args.log.now c.move_on.new.log c.from_residual-in_err-move_on-in-NoWorld.ensures.1 c.in_err-move_on-in-NoWorld.ensures.log

pub returns-in_ok-move_on-in-NoWorld-clause-found : goal.returns-in_ok-move_on-in-NoWorld-clause-found
returns-in_ok-move_on-in-NoWorld-clause-found g c = (
  λ none. absurd (true≢false (sym none)),
  λ world. absurd ((subst (IsFoundAt c.args.problem.now c.args.walk.now.path) c.in-NoWorld.is c.in_ok-look.ensures.found).1 world),
)

pub returns-in_ok-move_on-in-NoWorld-clause-keeps : goal.returns-in_ok-move_on-in-NoWorld-clause-keeps
returns-in_ok-move_on-in-NoWorld-clause-keeps g c = λ from from_there.
    keeps_after c.args.problem.now from (g.L.TreeLog.lines c.args.log.now) (g.L.TreeLog.lines c.move_on.new.log) c.args.asker.now c.look.new.asker c.move_on.new.asker
    (expected c.args.walk.now) (expected c.move_on.new.walk) c.look.ensures.kept (c.move_on.ensures.keeps from from_there)

pub returns-in_ok-move_on-in-NoWorld-clause-log : goal.returns-in_ok-move_on-in-NoWorld-clause-log
returns-in_ok-move_on-in-NoWorld-clause-log g c = log_ok_as _ _ c.args.log.now c.move_on.new.log c.in_ok-move_on-in-NoWorld.ensures.log
