use Rattle.std.proofs.Common.{subst}
use Rattle.family_solver.specs.Showing.{IsGranted}
use Rattle.mir_report.proofs.Granting.{met_granted, none_granted}
use Rattle.mir_report.proofs.sight.choice_of.Goals as goal

pub returns-in-Met : goal.returns-in-Met
returns-in-Met c =
    met_granted c.args.problem.now c.args.part.now c.args.ground.now.pairs.items c.args.place c.args.pair c.args.rel c.in-Met.family c.requires.pair c.requires.part
    (subst (IsGranted c.args.problem.now c.args.ground.now.pairs.items c.args.place c.args.rel) c.in-Met.is c.requires.granted)

pub returns-in-Refuted : goal.returns-in-Refuted
returns-in-Refuted c =
    none_granted c.args.problem.now c.args.part.now c.args.ground.now.pairs.items c.args.place c.args.pair c.args.rel c.requires.pair c.requires.part
    (subst (IsGranted c.args.problem.now c.args.ground.now.pairs.items c.args.place c.args.rel) c.in-Refuted.is c.requires.granted)
