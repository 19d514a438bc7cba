use Rattle.std.proofs.Common.{◌≡◌, [], None, length}
use Rattle.constraint_set.specs.Shape.{shape_of}
use Rattle.trial_run.specs.Steps.{AreFound}
use Rattle.world_search.specs.Told.{IsKeptIn}
use Rattle.world_search.proofs.WorldsLeft.{worlds_from}
use Rattle.trial_run.proofs.listing.count_worlds.Given as goal

abbrev pub invariant-worlds : goal.invariant-worlds
invariant-worlds g l = record {
  problem : l.search.problem ≡ l.problem;
  from : l.search.from ≡ [];
  unbounded : l.search.to ≡ None;
  shape : l.asker.shape ≡ shape_of l.problem;
  found : AreFound l.problem l.search.at l.count;
  kept : IsKeptIn l.problem [] (g.L.TreeLog.lines l.initial.log) (g.L.TreeLog.lines l.log) l.asker l.search.expects;
}

abbrev pub decreases-worlds : goal.decreases-worlds
decreases-worlds g l = length (worlds_from l.problem l.search.at)
