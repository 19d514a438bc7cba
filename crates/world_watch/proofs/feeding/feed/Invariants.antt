use Rattle.world_watch.proofs.StepLemmas.{Fed}
use Rattle.world_watch.proofs.feeding.feed.Given as goal

abbrev pub invariant-loop-place : goal.invariant-loop-place
invariant-loop-place g l =
    Fed l.initial.watchers.items l.watchers.items (λ z. (goal.WorldWatcher-dyn g (z.vtable, z.value)).name z.value) (λ z. (goal.WorldWatcher-dyn g (z.vtable, z.value)).text z.value)
    l.problem l.table l.place
