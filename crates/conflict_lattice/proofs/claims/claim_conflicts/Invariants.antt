use Rattle.std.proofs.Common.{◌≡◌, false, take, Ok}
use Rattle.search_log.specs.Leading.{KeepsLeading}
use Rattle.search_log.specs.Logging.{LogGoes}
use Rattle.pick_search.specs.Blocks.Blocks.{AreClaimsMade, FromClaims}
use Rattle.conflict_lattice.specs.Lattice.{claims_of}
use Rattle.conflict_lattice.proofs.claims.claim_conflicts.Given as goal

-- the conflicts so far are claimed
abbrev pub invariant-conflicts : goal.invariant-conflicts
invariant-conflicts g l = record {
  shape : l.asker.shape ≡ l.fn.asker.shape;
  made : FromClaims l.problem (g.L.TreeLog.lines l.fn.log) l.fn.asker (λ claims. AreClaimsMade l.problem (λ more. more ≡ claims_of false (take l.conflict-index l.conflicts)) claims (g.L.TreeLog.lines l.log) l.asker);
  leads : KeepsLeading (g.L.TreeLog.lines l.fn.log) (g.L.TreeLog.lines l.log) l.fn.asker l.asker;
  log : LogGoes g.L.TreeLog.drops g.L.TreeLog.lines g.L.TreeLog.faults g.L.TreeLog.steady g.L.TreeLog.quiet (Ok (tt {0})) l.fn.log l.log;
}
