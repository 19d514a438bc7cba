use Rattle.std.proofs.Common.{Some, Ok, subst}
use Rattle.search_log.proofs.Logs.{on_err}
use Rattle.split_search.specs.Walking.{next_node, IsVisit, visit_next, KeepsTree}
use Rattle.split_search.proofs.visit.take_turn.Goals as goal

pub go_on-requires-clause-seen : goal.go_on-requires-clause-seen
go_on-requires-clause-seen g c = subst (IsVisit c.args.walk.now.subject c.args.walk.now.path) c.in-Past.is c.in_ok-family.ensures.found

pub returns-in_err-family-clause-err : goal.returns-in_err-family-clause-err
returns-in_err-family-clause-err g c = on_err c.from_residual.result (Some c.args.walk.now.path, c.in_err-family.ensures.keeps)

pub returns-in-Met-clause-keeps : goal.returns-in-Met-clause-keeps
returns-in-Met-clause-keeps g c =
    let q = c.args.walk.now.subject in
    let m = c.args.walk.now.path in
    subst (λ visit. KeepsTree q (g.L.TreeLog.lines c.args.log.now) (g.L.TreeLog.lines c.visit_node.new.log) c.args.asker.now c.visit_node.new.asker (Some m) (visit_next q m (Ok visit))) c.in-Met.is c.in_ok-family.ensures.keeps

pub returns-in_err-go_on-in-Past-clause-err : goal.returns-in_err-go_on-in-Past-clause-err
returns-in_err-go_on-in-Past-clause-err g c =
    let q = c.args.walk.now.subject in
    let m = c.args.walk.now.path in
    on_err c.from_residual-in_err-go_on-in-Past.result (
      next_node q c.in-Past.branches m,
      subst (λ visit. KeepsTree q (g.L.TreeLog.lines c.args.log.now) (g.L.TreeLog.lines c.visit_node.new.log) c.args.asker.now c.visit_node.new.asker (Some m) (visit_next q m (Ok visit))) c.in-Past.is c.in_ok-family.ensures.keeps,
    )

pub returns-in_ok-go_on-in-Past-clause-keeps : goal.returns-in_ok-go_on-in-Past-clause-keeps
returns-in_ok-go_on-in-Past-clause-keeps g c =
    let q = c.args.walk.now.subject in
    let m = c.args.walk.now.path in
    subst (KeepsTree q (g.L.TreeLog.lines c.args.log.now) (g.L.TreeLog.lines c.visit_node.new.log) c.args.asker.now c.visit_node.new.asker (Some m)) c.in_ok-go_on-in-Past.ensures.next
    (subst (λ visit. KeepsTree q (g.L.TreeLog.lines c.args.log.now) (g.L.TreeLog.lines c.visit_node.new.log) c.args.asker.now c.visit_node.new.asker (Some m) (visit_next q m (Ok visit))) c.in-Past.is c.in_ok-family.ensures.keeps)
