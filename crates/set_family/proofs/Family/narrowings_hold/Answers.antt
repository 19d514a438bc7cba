use Rattle.std.proofs.Common.{◌≤◌, length, arith, sym, ◌∙◌}
use Rattle.world_model.specs.Family.{holds}
use Rattle.set_family.proofs.Holding.{all_got, all_done}
use Rattle.set_family.proofs.Family.narrowings_hold.Goals as goal

pub returns-then-not-is_related : goal.returns-then-not-is_related
returns-then-not-is_related c =
    sym (all_got (holds c.args.self.now) c.args.problem.now.narrowings c.loop-index.index _ _ c.narrowing-left.ensures c.if-not-is_related.ensures) ∙ c.loop-index.invariant

pub loop-index-preserved : goal.loop-index-preserved
loop-index-preserved c =
    sym (all_got (holds c.args.self.now) c.args.problem.now.narrowings c.loop-index.index _ _ c.narrowing-left.ensures c.if-not-is_related.ensures) ∙ c.loop-index.invariant

pub returns : goal.returns
returns c =
    let done : length c.args.problem.now.narrowings ≤ c.loop-index.index = omega arith in
    sym (all_done (holds c.args.self.now) c.args.problem.now.narrowings c.loop-index.index done) ∙ c.loop-index.invariant
