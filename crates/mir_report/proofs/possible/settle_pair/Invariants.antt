use Rattle.std.proofs.Common.{◌≡◌, take, All, Ok}
use Rattle.world_model.specs.Questions.{IsPossibleRelation}
use Rattle.point_query.proofs.Choosing.{HasThose}
use Rattle.search_log.specs.Leading.{KeepsLeading}
use Rattle.search_log.specs.Logging.{LogGoes}
use Rattle.set_family.specs.Meeting.{IsMetBy}
use Rattle.pick_search.specs.Blocks.Blocks.{KeepsClaims}
use Rattle.mir_report.specs.Steps.{claims_of}
use Rattle.mir_report.proofs.possible.settle_pair.Given as goal

-- the set has the possible ones among the relations so far, and these are claimed
abbrev pub invariant-rels : goal.invariant-rels
invariant-rels g l = record {
  shape : l.asker.shape ≡ l.fn.asker.shape;
  families : All (IsMetBy l.problem) l.families.items;
  each : HasThose (IsPossibleRelation l.problem l.pair) (take l.rel-index l.rel-items) l.set;
  keeps : KeepsClaims l.problem (Ok l.set) (λ set more. more ≡ claims_of l.problem l.pair set (take l.rel-index l.rel-items)) (g.L.TreeLog.lines l.fn.log) (g.L.TreeLog.lines l.log) l.fn.asker l.asker;
  leads : KeepsLeading (g.L.TreeLog.lines l.fn.log) (g.L.TreeLog.lines l.log) l.fn.asker l.asker;
  log : LogGoes g.L.TreeLog.drops g.L.TreeLog.lines g.L.TreeLog.faults g.L.TreeLog.steady g.L.TreeLog.quiet (Ok (tt {0})) l.fn.log l.log;
}
