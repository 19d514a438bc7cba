use Rattle.report_run.proofs.AskLemmas.{none_moved, one_moved, others_kept}
use Rattle.report_run.proofs.asked.move_named.Goals as goal

pub returns-in_default-clause-moved : goal.returns-in_default-clause-moved
returns-in_default-clause-moved g c = none_moved _ _ c.args.watchers.now.items c.deref.result.now c.args.found.now.items c.args.kind.now c.deref.ensures.value c.in_default.ensures

pub returns-in_err-push-clause-others : goal.returns-in_err-push-clause-others
returns-in_err-push-clause-others g c =
    λ other apart. others_kept _ _ c.args.watchers.now.items c.deref.result.now c.remove.new.self.items c.args.kind.now other c.in-Some.place c.deref.ensures.value c.in-Some.ensures apart c.remove.ensures.items

pub returns-clause-moved : goal.returns-clause-moved
returns-clause-moved g c =
    one_moved _ _ c.args.watchers.now.items c.deref.result.now c.args.found.now.items c.push.new.self.items c.args.kind.now c.in-Some.place c.remove.result c.deref.ensures.value c.in-Some.ensures c.remove.ensures.value
    c.in_ok-push.ensures.items

pub returns-clause-others : goal.returns-clause-others
returns-clause-others g c =
    λ other apart. others_kept _ _ c.args.watchers.now.items c.deref.result.now c.remove.new.self.items c.args.kind.now other c.in-Some.place c.deref.ensures.value c.in-Some.ensures apart c.remove.ensures.items
