use Rattle.std.proofs.Common.{◌≡◌, map, take, Ok}
use Rattle.search_log.specs.Leading.{KeepsLeading}
use Rattle.search_log.specs.Logging.{LogGoes}
use Rattle.pick_search.specs.Blocks.Blocks.{AreClaimsMade, FromClaims}
use Rattle.conflict_min.proofs.Claims.{loss}
use Rattle.conflict_min.proofs.shown.show_losses.Given as goal

-- the losses so far are claimed
abbrev pub invariant-losses : goal.invariant-losses
invariant-losses g l = record {
  shape : l.asker.shape ≡ l.fn.asker.shape;
  made :
      FromClaims l.problem (g.L.TreeLog.lines l.fn.log) l.fn.asker
      (λ claims. AreClaimsMade l.problem (λ more. more ≡ map (loss l.conflict.kept.items) (take l.nth l.places.items)) claims (g.L.TreeLog.lines l.log) l.asker);
  leads : KeepsLeading (g.L.TreeLog.lines l.fn.log) (g.L.TreeLog.lines l.log) l.fn.asker l.asker;
  log : LogGoes g.L.TreeLog.drops g.L.TreeLog.lines g.L.TreeLog.faults g.L.TreeLog.steady g.L.TreeLog.quiet (Ok (tt {0})) l.fn.log l.log;
}
