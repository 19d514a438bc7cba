use Rattle.std.proofs.Common.{◌≡◌, false, ◌++◌, None, sym, subst}
use Rattle.cert_rules.specs.ClaimWriting.{open_at}
use Rattle.cert_rules.proofs.ClaimWriting.{claims_put_keep_up_law}
use Rattle.split_search.specs.Choosing.{IsChoice}
use Rattle.pick_search.specs.Blocks.Blocks.{claimed, settled}
use Rattle.pick_search.specs.Blocks.Steps.{LeadsIf, MayEndAt}
use Rattle.pick_search.proofs.blocks.Answered.{shown, few_sets}
use Rattle.pick_search.proofs.blocks.claims.end_tree.Goals as goal

pub leave_tree-requires : goal.leave_tree-requires
leave_tree-requires g c = few_sets c.args.problem.now c.in-Met.family c.facts.ensures.built (subst (IsChoice c.args.problem.now) c.in-Met.is c.requires)

pub returns-in-Met-clause-keeps : goal.returns-in-Met-clause-keeps
returns-in-Met-clause-keeps g c = λ p at claims is may.
    let subject = c.args.subject.now in
    let q = c.args.problem.now in
    let old = g.L.TreeLog.lines c.args.log.now in
    let new = g.L.TreeLog.lines c.leave_tree.new.log in
    let shows = shown p subject q c.in-Met.family is (subst (IsChoice q) c.in-Met.is c.requires) in
    subst (λ choice. LeadsIf p c.leave_tree.result old new c.args.asker.now c.leave_tree.new.asker (open_at subject at) claims None (claims ++ settled subject choice)) (sym c.in-Met.is)
    (c.leave_tree.ensures.keeps p at claims shows)

pub returns-in-Refuted-clause-keeps : goal.returns-in-Refuted-clause-keeps
returns-in-Refuted-clause-keeps g c = λ p at claims is may.
    let subject = c.args.subject.now in
    let old = g.L.TreeLog.lines c.args.log.now in
    let new = g.L.TreeLog.lines c.put_behind.new.log in
    let one = c.args.asker.now in
    let two = c.put_behind.new.asker in
    let fails = claimed subject false in
    let none : at ≡ None = subst (λ choice. MayEndAt choice at) c.in-Refuted.is may in
    subst (λ choice. LeadsIf p c.put_behind.result old new one two (open_at subject at) claims None (claims ++ settled subject choice)) (sym c.in-Refuted.is)
    (subst (λ at. LeadsIf p c.put_behind.result old new one two (open_at subject at) claims None (claims ++ fails)) (sym none)
    (c.put_behind.ensures.keeps p (open_at subject None) None claims (claims ++ fails) (λ lines up. claims_put_keep_up_law.whole p lines one.solver.state claims subject up)))
