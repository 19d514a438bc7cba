use Rattle.pick_search.specs.Picking.{ArePicksRuled}
use Rattle.pick_search.proofs.rules.give_rules.Given as goal

abbrev pub invariant-loop-place : goal.invariant-loop-place
invariant-loop-place l = ArePicksRuled l.problem l.pairs l.solver
