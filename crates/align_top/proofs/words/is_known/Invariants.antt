use Rattle.std.proofs.Common.{◌≡◌, map, drop}
use Rattle.command_line.specs.Words.{is_among}
use Rattle.align_top.proofs.words.is_known.Given as goal

abbrev pub invariant-watchers : goal.invariant-watchers
invariant-watchers g l =
    is_among (map (λ z. (goal.WorldWatcher-dyn g (z.vtable, z.value)).name z.value) l.watchers.items) l.word
    ≡ is_among (map (λ z. (goal.WorldWatcher-dyn g (z.vtable, z.value)).name z.value) (drop l.place l.watchers.items)) l.word
