use Rattle.std.proofs.Common.{◌≡◌, ℕ, ◌<◌, true}
use Rattle.rcc5_core.specs.Region.{is_whole_set}
use Rattle.world_model.specs.Alive.{allowed}
use Rattle.world_model.specs.Node.{pair_at}
use Rattle.pick_search.proofs.search.are_whole.Given as goal

-- the pairs so far allow whole sets
abbrev pub invariant-loop-pair : goal.invariant-loop-pair
invariant-loop-pair l = (k : ℕ) → k < l.pair → is_whole_set (allowed l.problem (pair_at l.problem k)) ≡ true
