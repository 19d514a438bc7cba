use Rattle.std.proofs.Common.{◌≡◌, false, [], ◌++◌, Some, None, Err, refl}
use Rattle.cert_rules.specs.ClaimWriting.{open_at}
use Rattle.cert_rules.proofs.ClaimWriting.{claims_put_keep_up_law}
use Rattle.pick_search.specs.Blocks.Blocks.{claimed}
use Rattle.pick_search.proofs.blocks.Answered.{keeps_from, told_from}
use Rattle.pick_search.proofs.blocks.RootLemmas.{closed_alike}
use Rattle.pick_search.proofs.blocks.Steps.{leads_behind}
use Rattle.pick_search.proofs.blocks.Joins.{keeps_err}
use Rattle.search_log.proofs.Leading.{led_joins}
use Rattle.pick_search.proofs.blocks.roots.refute.Goals as goal

pub returns-in_err-begin_tree-clause-keeps : goal.returns-in_err-begin_tree-clause-keeps
returns-in_err-begin_tree-clause-keeps g c = λ p closed.
    let old = g.L.TreeLog.lines c.args.log.now in
    let new = g.L.TreeLog.lines c.begin_tree.new.log in
    keeps_err (λ f. f ≡ c.in_err-begin_tree.field-0.0) c.from_residual.result p (λ _ more. more ≡ claimed c.args.subject.now false) old new c.args.asker.now c.begin_tree.new.asker c.from_residual.ensures.1
    (told_from p old new c.args.asker.now c.begin_tree.new.asker (λ claims. c.in_err-begin_tree.ensures.keeps p claims closed.named))

pub returns-in_err-put_root-clause-keeps : goal.returns-in_err-put_root-clause-keeps
returns-in_err-put_root-clause-keeps g c = λ p closed.
    let subject = c.args.subject.now in
    let old = g.L.TreeLog.lines c.args.log.now in
    let mid = g.L.TreeLog.lines c.begin_tree.new.log in
    let new = g.L.TreeLog.lines c.put_root.new.log in
    let one = c.args.asker.now in
    let two = c.begin_tree.new.asker in
    let three = c.put_root.new.asker in
    keeps_err (λ f. f ≡ c.in_err-put_root.field-0.0) c.from_residual-in_err-put_root.result p (λ _ more. more ≡ claimed subject false) old new one three c.from_residual-in_err-put_root.ensures.1
    (told_from p old new one three (λ claims.
    leads_behind {T = Unit {0}} (Err c.in_err-put_root.field-0.0) p old mid new one two three None (open_at subject (Some [])) (open_at subject None) claims claims claims c.in_ok-begin_tree.ensures.log.told
    (c.in_ok-begin_tree.ensures.keeps p claims closed.named)
    (c.in_err-put_root.ensures.keeps p claims (closed_alike p subject one two c.args.need c.args.clause c.begin_tree.ensures.same closed))))

pub returns-clause-keeps : goal.returns-clause-keeps
returns-clause-keeps g c = λ p closed.
    let subject = c.args.subject.now in
    let made = claimed subject false in
    let old = g.L.TreeLog.lines c.args.log.now in
    let mid = g.L.TreeLog.lines c.begin_tree.new.log in
    let late = g.L.TreeLog.lines c.put_root.new.log in
    let new = g.L.TreeLog.lines c.put_behind.new.log in
    let one = c.args.asker.now in
    let two = c.begin_tree.new.asker in
    let three = c.put_root.new.asker in
    let four = c.put_behind.new.asker in
    let r = c.put_behind.result in
    keeps_from r p (λ _ more. more ≡ made) made old new one four (λ value. refl) (λ claims.
    leads_behind r p old mid new one two four None (open_at subject (Some [])) None claims claims (claims ++ made) c.in_ok-begin_tree.ensures.log.told (c.in_ok-begin_tree.ensures.keeps p claims closed.named)
    (leads_behind r p mid late new two three four (open_at subject (Some [])) (open_at subject None) None claims claims (claims ++ made) c.in_ok-put_root.ensures.log.told
    (c.in_ok-put_root.ensures.keeps p claims (closed_alike p subject one two c.args.need c.args.clause c.begin_tree.ensures.same closed))
    (c.put_behind.ensures.keeps p (open_at subject None) None claims (claims ++ made) (λ lines up. claims_put_keep_up_law.whole p lines three.solver.state claims subject up))))

pub returns-in_err-put_root-clause-leads : goal.returns-in_err-put_root-clause-leads
returns-in_err-put_root-clause-leads g c =
    led_joins (g.L.TreeLog.lines c.args.log.now) (g.L.TreeLog.lines c.begin_tree.new.log) (g.L.TreeLog.lines c.put_root.new.log) c.args.asker.now c.begin_tree.new.asker c.put_root.new.asker c.in_ok-begin_tree.ensures.log.told c.begin_tree.ensures.leads
    c.put_root.ensures.leads

pub returns-clause-leads : goal.returns-clause-leads
returns-clause-leads g c =
    led_joins (g.L.TreeLog.lines c.args.log.now) (g.L.TreeLog.lines c.begin_tree.new.log) (g.L.TreeLog.lines c.put_behind.new.log) c.args.asker.now c.begin_tree.new.asker c.put_behind.new.asker c.in_ok-begin_tree.ensures.log.told c.begin_tree.ensures.leads
    (led_joins (g.L.TreeLog.lines c.begin_tree.new.log) (g.L.TreeLog.lines c.put_root.new.log) (g.L.TreeLog.lines c.put_behind.new.log) c.begin_tree.new.asker c.put_root.new.asker c.put_behind.new.asker c.in_ok-put_root.ensures.log.told c.put_root.ensures.leads
    c.put_behind.ensures.leads)
