use Rattle.pick_search.specs.Picking.{ArePicksRuled}
use Rattle.pick_search.proofs.rules.give_bans.Given as goal

abbrev pub invariant-loop-clash : goal.invariant-loop-clash
invariant-loop-clash l = ArePicksRuled l.problem l.pairs l.solver
