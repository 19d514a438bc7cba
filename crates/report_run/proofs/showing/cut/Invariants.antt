use Rattle.std.proofs.Common.{◌≡◌, ◌≤◌, length, take}
use Rattle.report_run.proofs.showing.cut.Given as goal

abbrev pub decreases-loop-world : goal.decreases-loop-world
decreases-loop-world l = length l.world

abbrev pub invariant-loop-world : goal.invariant-loop-world
invariant-loop-world l = record { kept : l.kept ≤ length l.world; same : take l.kept l.world ≡ take l.kept l.initial.world }
