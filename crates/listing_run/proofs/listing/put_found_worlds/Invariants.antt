use Rattle.std.proofs.Common.{◌≡◌, Ok, length}
use Rattle.listing_run.specs.Putting.{IsPutTo, IsSearchOf}
use Rattle.world_search.proofs.WorldsLeft.{worlds_from}
use Rattle.world_search.specs.Told.{IsKeptIn}
use Rattle.listing_run.specs.Logged.{LogMoves}
use Rattle.listing_run.proofs.listing.put_found_worlds.Given as goal

abbrev pub decreases-worlds : goal.decreases-worlds
decreases-worlds g l = length (worlds_from l.plan.problem l.search.at)

abbrev pub invariant-worlds : goal.invariant-worlds
invariant-worlds g l = record {
  asked : IsSearchOf l.plan l.search l.asker;
  put : IsPutTo l.plan l.search.at (g.W.Sink.state l.initial.out).bytes (g.W.Sink.state l.out).bytes l.count l.nodes.left l.worlds;
  faults : (g.W.Sink.state l.out).faults ≡ (g.W.Sink.state l.initial.out).faults;
  kept : IsKeptIn l.plan.problem l.plan.start (g.L.TreeLog.lines l.initial.log) (g.L.TreeLog.lines l.log) l.asker l.search.expects;
  log : LogMoves g.L.TreeLog.faults g.L.TreeLog.steady g.L.TreeLog.quiet (Ok (tt {0})) l.initial.log l.log;
}
