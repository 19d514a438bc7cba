use Rattle.std.proofs.Common.{◌≡◌, ◌<◌, ℕ, None}
use Rattle.watch_arena.specs.Chains.{head_of}
use Rattle.watch_arena.proofs.chains.clear_all.Given as goal

abbrev pub invariant-loop-head : goal.invariant-loop-head
invariant-loop-head l = (k : ℕ) → k < l.head-index → head_of l.heads k ≡ None
