use Rattle.report_run.proofs.AskLemmas.{AreAsked}
use Rattle.report_run.proofs.asked.asked_for.Given as goal

abbrev pub invariant-kinds : goal.invariant-kinds
invariant-kinds g l =
    AreAsked l.initial.watchers.items l.found.items l.watchers.items (λ z. (goal.WorldWatcher-dyn g (z.vtable, z.value)).name z.value) (λ z. (goal.WorldWatcher-dyn g (z.vtable, z.value)).text z.value) l.kinds l.kind-index
