use Rattle.std.proofs.Common.{◌≡◌, take}
use Rattle.std.specs.Prelude.{flat_map}
use Rattle.point_query.specs.Asking.{AskerGoes}
use Rattle.listing_run.specs.Parts.Levels.{followers}
use Rattle.listing_run.proofs.parts.levels.next_level.Given as goal

abbrev pub invariant-loop-node : goal.invariant-loop-node
invariant-loop-node l = (l.next.items ≡ flat_map (followers l.problem) (take l.node-index l.level)) × AskerGoes l.fn.asker l.asker
