use Rattle.std.proofs.Common.{◌≡◌, ℕ, ◌<◌, false, get_or}
use Rattle.rcc5_core.specs.RelationSet.{is_empty_set, no_rels}
use Rattle.point_ladder.proofs.start.all_allow.Given as goal

abbrev pub invariant-loop-set : goal.invariant-loop-set
invariant-loop-set l = (k : ℕ) → k < l.set-index → is_empty_set (get_or l.sets k no_rels) ≡ false
