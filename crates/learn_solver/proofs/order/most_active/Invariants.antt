use Rattle.learn_solver.proofs.order.most_active.Given as goal

abbrev pub decreases-loop-variable : goal.decreases-loop-variable
decreases-loop-variable l = l.heap.count
