use Rattle.std.proofs.Common.{◌≡◌, true, false, Some, sym, ◌∙◌}
use Rattle.std.proofs.lemmas.Bool.{true≢false}
use Rattle.search_log.specs.declared.fault.StepFault.TheVariants.{NoMemory}
use Rattle.search_log.proofs.Leading.{led_goes, led_after}
use Rattle.split_search.specs.Walking.{split_tree, next_node}
use Rattle.split_search.proofs.Lines.{alive_here, dead_here}
use Rattle.split_search.proofs.Told.{keeps_goes, keeps_after}
use Rattle.split_search.proofs.Visits.{visit_err}
use Rattle.split_search.proofs.visit.visit_inner.Goals as goal

pub returns-in_err-is_alive-clause-keeps : goal.returns-in_err-is_alive-clause-keeps
returns-in_err-is_alive-clause-keeps g c =
    let q = c.args.walk.now.subject in
    visit_err (λ f. f ≡ NoMemory) c.from_residual.result q (g.L.TreeLog.lines c.args.log.now) (g.L.TreeLog.lines c.args.log.now) c.args.asker.now c.is_alive-2.new.self c.args.walk.now.path c.from_residual.ensures.1
    (keeps_goes q (g.L.TreeLog.lines c.args.log.now) c.args.asker.now c.is_alive-2.new.self (Some c.args.walk.now.path) c.is_alive-2.ensures.kept)

pub tell_branch-requires-clause-alive : goal.tell_branch-requires-clause-alive
tell_branch-requires-clause-alive g c =
    alive_here (split_tree c.args.walk.now.subject) c.args.walk.now.path c.node.result.now c.new.result (c.node.ensures, c.new.ensures) (c.in_ok-is_alive.ensures.alive.0 c.if-branch.true)

pub returns-in_err-tell_branch-clause-keeps : goal.returns-in_err-tell_branch-clause-keeps
returns-in_err-tell_branch-clause-keeps g c =
    let q = c.args.walk.now.subject in
    let m = c.args.walk.now.path in
    visit_err (λ f. f ≡ c.in_err-tell_branch.field-0.0) c.from_residual-in_err-tell_branch.result q (g.L.TreeLog.lines c.args.log.now) (g.L.TreeLog.lines c.tell_branch.new.log) c.args.asker.now c.tell_branch.new.asker m
    c.from_residual-in_err-tell_branch.ensures.1
    (keeps_after q (g.L.TreeLog.lines c.args.log.now) (g.L.TreeLog.lines c.tell_branch.new.log) c.args.asker.now c.is_alive-2.new.self c.tell_branch.new.asker (Some m) (Some m) c.is_alive-2.ensures.kept c.in_err-tell_branch.ensures.keeps)

pub returns-then-branch-clause-keeps : goal.returns-then-branch-clause-keeps
returns-then-branch-clause-keeps g c =
    let q = c.args.walk.now.subject in
    keeps_after q (g.L.TreeLog.lines c.args.log.now) (g.L.TreeLog.lines c.tell_branch.new.log) c.args.asker.now c.is_alive-2.new.self c.tell_branch.new.asker
    (Some c.args.walk.now.path) (next_node q true c.args.walk.now.path) c.is_alive-2.ensures.kept c.in_ok-tell_branch.ensures.keeps

pub tell_dead-requires-clause-dead : goal.tell_dead-requires-clause-dead
tell_dead-requires-clause-dead g c =
    dead_here (split_tree c.args.walk.now.subject) c.args.walk.now.path c.node.result.now c.new.result (c.node.ensures, c.new.ensures)
    (λ alive. true≢false (sym (c.in_ok-is_alive.ensures.alive.1 alive) ∙ c.if-branch.false))

pub returns-in_err-tell_dead-clause-keeps : goal.returns-in_err-tell_dead-clause-keeps
returns-in_err-tell_dead-clause-keeps g c =
    let q = c.args.walk.now.subject in
    let m = c.args.walk.now.path in
    visit_err (λ f. f ≡ c.in_err-tell_dead.field-0.0) c.from_residual-in_err-tell_dead.result q (g.L.TreeLog.lines c.args.log.now) (g.L.TreeLog.lines c.tell_dead.new.log) c.args.asker.now c.tell_dead.new.asker m
    c.from_residual-in_err-tell_dead.ensures.1
    (keeps_after q (g.L.TreeLog.lines c.args.log.now) (g.L.TreeLog.lines c.tell_dead.new.log) c.args.asker.now c.is_alive-2.new.self c.tell_dead.new.asker (Some m) (Some m) c.is_alive-2.ensures.kept c.in_err-tell_dead.ensures.keeps)

pub returns-clause-found : goal.returns-clause-found
returns-clause-found g c =
    dead_here (split_tree c.args.walk.now.subject) c.args.walk.now.path c.node.result.now c.new.result (c.node.ensures, c.new.ensures)
    (λ alive. true≢false (sym (c.in_ok-is_alive.ensures.alive.1 alive) ∙ c.if-branch.false))

pub returns-clause-keeps : goal.returns-clause-keeps
returns-clause-keeps g c =
    let q = c.args.walk.now.subject in
    keeps_after q (g.L.TreeLog.lines c.args.log.now) (g.L.TreeLog.lines c.tell_dead.new.log) c.args.asker.now c.is_alive-2.new.self c.tell_dead.new.asker
    (Some c.args.walk.now.path) (next_node q false c.args.walk.now.path) c.is_alive-2.ensures.kept c.in_ok-tell_dead.ensures.keeps

pub returns-in_err-is_alive-clause-leads : goal.returns-in_err-is_alive-clause-leads
returns-in_err-is_alive-clause-leads g c =
    led_goes (g.L.TreeLog.lines c.args.log.now) c.args.asker.now c.is_alive-2.new.self c.is_alive-2.ensures.kept

pub returns-in_err-tell_branch-clause-leads : goal.returns-in_err-tell_branch-clause-leads
returns-in_err-tell_branch-clause-leads g c =
    led_after (g.L.TreeLog.lines c.args.log.now) (g.L.TreeLog.lines c.tell_branch.new.log) c.args.asker.now c.is_alive-2.new.self c.tell_branch.new.asker c.is_alive-2.ensures.kept c.tell_branch.ensures.leads

pub returns-then-branch-clause-leads : goal.returns-then-branch-clause-leads
returns-then-branch-clause-leads g c =
    led_after (g.L.TreeLog.lines c.args.log.now) (g.L.TreeLog.lines c.tell_branch.new.log) c.args.asker.now c.is_alive-2.new.self c.tell_branch.new.asker c.is_alive-2.ensures.kept c.tell_branch.ensures.leads

pub returns-in_err-tell_dead-clause-leads : goal.returns-in_err-tell_dead-clause-leads
returns-in_err-tell_dead-clause-leads g c =
    led_after (g.L.TreeLog.lines c.args.log.now) (g.L.TreeLog.lines c.tell_dead.new.log) c.args.asker.now c.is_alive-2.new.self c.tell_dead.new.asker c.is_alive-2.ensures.kept c.tell_dead.ensures.leads

pub returns-clause-leads : goal.returns-clause-leads
returns-clause-leads g c =
    led_after (g.L.TreeLog.lines c.args.log.now) (g.L.TreeLog.lines c.tell_dead.new.log) c.args.asker.now c.is_alive-2.new.self c.tell_dead.new.asker c.is_alive-2.ensures.kept c.tell_dead.ensures.leads
