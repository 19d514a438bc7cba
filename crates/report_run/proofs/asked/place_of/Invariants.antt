use Rattle.report_run.proofs.AskLemmas.{NoneNamed}
use Rattle.report_run.proofs.asked.place_of.Given as goal

abbrev pub invariant-loop-place : goal.invariant-loop-place
invariant-loop-place g l = NoneNamed l.watchers (λ z. (goal.WorldWatcher-dyn g (z.vtable, z.value)).name z.value) l.kind l.place
