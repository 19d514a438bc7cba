use Rattle.std.proofs.Common.{◌<◌, sym, subst}
use Rattle.world_model.specs.Problem.{pair_count}
use Rattle.desk_run.specs.Script.Requests.{IsAct}
use Rattle.desk_run.proofs.desk.DeskLemmas.{same_pairs}
use Rattle.desk_run.proofs.desk.acts.at_open.Goals as goal

pub narrow-requires : goal.narrow-requires
narrow-requires c =
    let within : c.in-Narrow.pair < pair_count c.args.problem.now = subst (IsAct c.args.problem.now) c.in-Narrow.is c.requires.act in
    subst (λ n. c.in-Narrow.pair < n) (sym (same_pairs c.args.slot.problem c.args.problem.now c.requires.shape)) within
