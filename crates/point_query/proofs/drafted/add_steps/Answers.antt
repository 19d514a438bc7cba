use Rattle.point_query.proofs.Querying.{keeps_chain, keeps_still}
use Rattle.point_query.proofs.drafted.add_steps.Goals as goal
use Rattle.std.proofs.Common.{refl}

pub returns-in_err-ids : goal.returns-in_err-ids
returns-in_err-ids c = record { solver = keeps_still _ _ c.requires.solver }

pub loop-step-init : goal.loop-step-init
loop-step-init c = keeps_still _ _ c.requires.solver

pub loop-step-preserved : goal.loop-step-preserved
loop-step-preserved c =
    keeps_chain c.law_literals_are_sets.ensures c.args.problem.now c.args.problem.now c.args.solver.now c.loop-step.solver c.add_if_it_counts.new.solver refl c.loop-step.invariant c.add_if_it_counts.ensures.solver

pub returns-in_err-last : goal.returns-in_err-last
returns-in_err-last c = record {
  solver = keeps_chain c.law_literals_are_sets.ensures c.args.problem.now c.args.problem.now c.args.solver.now c.loop-step.solver c.add_if_it_counts.new.solver refl c.loop-step.invariant c.add_if_it_counts.ensures.solver;
}

pub returns-in_err-push : goal.returns-in_err-push
returns-in_err-push c = record {
  solver = keeps_chain c.law_literals_are_sets.ensures c.args.problem.now c.args.problem.now c.args.solver.now c.loop-step.solver c.add_if_it_counts.new.solver refl c.loop-step.invariant c.add_if_it_counts.ensures.solver;
}
