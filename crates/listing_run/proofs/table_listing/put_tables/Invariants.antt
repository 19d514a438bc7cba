use Rattle.std.proofs.Common.{◌≡◌, length}
use Rattle.world_search.proofs.WorldsLeft.{worlds_from}
use Rattle.listing_run.proofs.TableLemmas.{put_up_to, IsTabled}
use Rattle.listing_run.proofs.table_listing.put_tables.Given as goal

abbrev pub decreases-loop-line : goal.decreases-loop-line
decreases-loop-line g l = length (worlds_from l.plan.problem (put_up_to l.tables.at l.tables.told))

abbrev pub invariant-loop-line : goal.invariant-loop-line
invariant-loop-line g l = record {
  tabled : IsTabled l.plan l.tables l.line.items (g.W.Sink.state l.initial.out).bytes (g.W.Sink.state l.out).bytes l.count l.worlds;
  faults : (g.W.Sink.state l.out).faults ≡ (g.W.Sink.state l.initial.out).faults;
}
