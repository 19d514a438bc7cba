use Rattle.std.proofs.Common.{subst}
use Rattle.split_search.specs.Choosing.{IsChoice}
use Rattle.mir_report.proofs.Showing.{unmet_sets}
use Rattle.mir_report.proofs.bare.ask_among.Goals as goal

pub returns-in-Refuted-clause-sets : goal.returns-in-Refuted-clause-sets
returns-in-Refuted-clause-sets c =
    unmet_sets c.args.problem.now c.in_ok-sets-in-Refuted.sets.items c.in_ok-sets-in-Refuted.ensures (subst (IsChoice c.args.problem.now) c.in-Refuted.is c.in_ok-choice.ensures.choice)

pub ask_all-requires-clause-met : goal.ask_all-requires-clause-met
ask_all-requires-clause-met c = subst (IsChoice c.args.problem.now) c.in-Met.is c.in_ok-choice.ensures.choice
