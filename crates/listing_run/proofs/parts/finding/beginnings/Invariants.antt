use Rattle.std.proofs.Common.{◌-◌}
use Rattle.point_query.specs.Asking.{AskerGoes}
use Rattle.listing_run.proofs.parts.BeginningLemmas.{IsAtDepth}
use Rattle.listing_run.proofs.parts.finding.beginnings.Given as goal

abbrev pub invariant-loop-depth : goal.invariant-loop-depth
invariant-loop-depth l = IsAtDepth l.problem l.count l.deepest l.depth l.nodes.items × AskerGoes l.fn.asker l.asker

abbrev pub decreases-loop-depth : goal.decreases-loop-depth
decreases-loop-depth l = l.deepest - l.depth
