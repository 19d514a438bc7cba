use Rattle.std.proofs.Common.{subst}
use Rattle.std.specs.Prelude.{IfSome}
use Rattle.split_search.specs.Choosing.{IsChoice}
use Rattle.pick_search.proofs.search.decide.Goals as goal

pub returns-in-Some-clause-choice : goal.returns-in-Some-clause-choice
returns-in-Some-clause-choice c = subst (λ o. IfSome o (IsChoice c.args.problem.now)) c.in-Some.is c.in_ok-found.ensures.choice
