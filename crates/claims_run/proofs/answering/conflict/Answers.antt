use Rattle.std.proofs.Common.{Bool, List, Ok, sym, subst}
use Rattle.pick_search.specs.Blocks.Blocks.{KeepsClaims}
use Rattle.claims_run.specs.declared.question.Answer.TheVariants.{Conflict}
use Rattle.claims_run.specs.Answering.{IsClaimed}
use Rattle.claims_run.proofs.answering.conflict.Goals as goal

pub returns-in-Ok-clause-keeps : goal.returns-in-Ok-clause-keeps
returns-in-Ok-clause-keeps g c =
    let p = c.args.problem.now in
    subst (λ (kept : List Bool). KeepsClaims p (Ok (Conflict kept)) (IsClaimed p) (g.L.TreeLog.lines c.args.log.now) (g.L.TreeLog.lines c.least_conflict.new.log) c.args.asker.now c.least_conflict.new.asker)
    (sym c.new.ensures) c.in-Ok.ensures.keeps
