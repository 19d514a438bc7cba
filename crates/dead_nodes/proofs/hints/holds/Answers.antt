use Rattle.std.proofs.Common.{◌≡◌, ◌∙◌, Some, sym, ap}
use Rattle.std.specs.Prelude.{option_map}
use Rattle.point_encode.specs.Model.Forced.{need_with}
use Rattle.point_encode.specs.Needs.{need_seen}
use Rattle.dead_nodes.proofs.Reasons.{closed_need}
use Rattle.dead_nodes.proofs.hints.holds.Goals as goal

pub returns : goal.returns
returns c = λ yes.
    let p = c.args.problem.now in
    let named : need_with p c.args.reason.need ≡ Some (need_seen p c.in-Some.need) = sym c.need_of.ensures.value ∙ ap (option_map (need_seen p)) c.in-Some.is in
    closed_need p c.args.asker.now.solver.state c.args.node.now (need_seen p c.in-Some.need) c.args.reason.need c.args.reason.clause named (c.is_forced.ensures.0 c.if-not-is_forced.false) (c.closes.ensures yes)
