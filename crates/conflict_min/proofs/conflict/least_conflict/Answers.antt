use Rattle.std.proofs.Common.{Ok, subst}
use Rattle.pick_search.specs.Blocks.Blocks.{KeepsClaims}
use Rattle.conflict_min.specs.Conflicts.{IsClaimedOf}
use Rattle.conflict_min.proofs.conflict.least_conflict.Goals as goal

pub returns-in-Ok-Least-clause-keeps : goal.returns-in-Ok-Least-clause-keeps
returns-in-Ok-Least-clause-keeps g c =
    subst (λ found. KeepsClaims c.args.problem.now (Ok found) (IsClaimedOf c.args.problem.now) (g.L.TreeLog.lines c.args.log.now) (g.L.TreeLog.lines c.find.new.log) c.args.asker.now c.find.new.asker) c.in-Ok-Least.field-0-is
    c.in-Ok-Least.ensures.keeps
