use Rattle.std.proofs.Common.{◌≡◌, false, not, take}
use Rattle.std.specs.List.{list_any}
use Rattle.rcc5_core.specs.Relation.{same_rel}
use Rattle.world_model.specs.Listing.{rel_at}
use Rattle.trial_run.proofs.summary.differs.Given as goal

abbrev pub invariant-loop-world : goal.invariant-loop-world
invariant-loop-world l = list_any (λ world. not (same_rel (rel_at world l.place) l.rel)) (take l.world-index l.worlds) ≡ false
