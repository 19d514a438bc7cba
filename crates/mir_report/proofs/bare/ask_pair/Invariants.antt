use Rattle.std.proofs.Common.{◌≡◌, take, length}
use Rattle.world_model.specs.Problem.{cross_pairs}
use Rattle.world_model.specs.Questions.{IsPossibleRelation}
use Rattle.point_query.proofs.Choosing.{HasThose}
use Rattle.mir_report.specs.Steps.{AreSeen, IsHelp}
use Rattle.mir_report.proofs.bare.ask_pair.Given as goal

-- the set has the possible ones among the relations so far
abbrev pub invariant-rels : goal.invariant-rels
invariant-rels l = record {
  shape : l.asker.shape ≡ l.fn.asker.shape;
  help : IsHelp l.problem l.help;
  seen : AreSeen l.problem (length (cross_pairs l.problem)) l.seen.items;
  each : HasThose (IsPossibleRelation l.problem l.pair) (take l.rel-index l.rel-items) l.set;
}
