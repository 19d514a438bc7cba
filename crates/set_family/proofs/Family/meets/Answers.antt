use Rattle.std.proofs.Common.{◌∙◌}
use Rattle.set_family.proofs.Holding.{meets_together}
use Rattle.set_family.proofs.Family.meets.Goals as goal

pub returns : goal.returns
returns c = c.passes.ensures ∙ meets_together c.args.problem.now c.args.self.now
