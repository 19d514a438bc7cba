use Rattle.std.proofs.Common.{◌≡◌, ◌≤◌, length, Ok}
use Rattle.search_log.specs.Leading.{KeepsLeading}
use Rattle.search_log.specs.Logging.{LogGoes}
use Rattle.pick_search.specs.Blocks.Blocks.{AreClaimsMade, FromClaims}
use Rattle.conflict_min.specs.Shrinking.{IsShrunk, IsDropped}
use Rattle.conflict_min.proofs.shrink.shrink.Given as goal

-- the articulations so far were gone through, and what was dropped of them is claimed
abbrev pub invariant-places : goal.invariant-places
invariant-places g l = record {
  shape : l.asker.shape ≡ l.fn.asker.shape;
  end : l.place-end ≡ length l.problem.articulations;
  upto : l.place ≤ l.pass.next;
  shrunk : IsShrunk l.problem l.pass.next l.kept.items l.families.items;
  made : FromClaims l.problem (g.L.TreeLog.lines l.fn.log) l.fn.asker (λ claims. AreClaimsMade l.problem (IsDropped l.fn.all.items l.kept.items) claims (g.L.TreeLog.lines l.log) l.asker);
  leads : KeepsLeading (g.L.TreeLog.lines l.fn.log) (g.L.TreeLog.lines l.log) l.fn.asker l.asker;
  log : LogGoes g.L.TreeLog.drops g.L.TreeLog.lines g.L.TreeLog.faults g.L.TreeLog.steady g.L.TreeLog.quiet (Ok (tt {0})) l.fn.log l.log;
}
